-- Request 7: "A pluck may take a lent table of 1025 numbers in place of T. On loading it must begin at 0, end at 65536 and never fall;
-- the mirrored sum is not required of it."
use Rattle.std.specs.Prelude.{◌≡◌, Option, Some, None, Bool, true, ◌&&◌, cond, List, [], ◌∷◌, ℕ, leb, eqb, length, get_or}
use Rattle.types.specs.declared.Refusal.TheVariants.{BrokenTable}
use Rattle.types.specs.Numbers.{number}
use Rattle.pluck_table.specs.Table.{ShapeRule}

-- "never fall": no entry is below the one before it
abbrev pub never_falls : List ℕ → Bool
never_falls [] = true
never_falls (x ∷ []) = true
never_falls (x ∷ y ∷ ys) = leb x y && never_falls (y ∷ ys)

-- "a lent table of 1025 numbers"; "it must begin at 0, end at 65536 and never fall"
unfoldable pub keeps_rule : List ℕ → Bool
keeps_rule t = eqb (length t) 1025 && (eqb (get_or t 0 0) 0 && eqb (get_or t 1024 0) 65536 && never_falls t)

-- what loading answers: for a table that keeps the rule the place of its last entry
unfoldable pub loaded_table : List ℕ → Option ℕ
loaded_table t = cond (keeps_rule t) (Some 1024) None

-- "Answers: 14, the table breaks a rule or has another length": the paper's number of each answer of loading, 0 for none
abbrev pub loaded_number : Option ℕ → ℕ
loaded_number (Some last) = 0
loaded_number None = number BrokenTable

-- and its value: the place of the table's last entry; a broken one has none, here 0
abbrev pub loaded_last : Option ℕ → ℕ
loaded_last (Some last) = last
loaded_last None = 0

-- 14 lets a table pass exactly where it keeps the rule of a shape, entry by entry; its last place is then 1024. Proved as `tables_loaded`.
pub record TablesLoaded : Type 0 where
  pub loads : (t : List ℕ) → ShapeRule t → loaded_number (loaded_table t) ≡ 0
  pub kept : (t : List ℕ) → loaded_number (loaded_table t) ≡ 0 → ShapeRule t
  pub last : (t : List ℕ) → loaded_number (loaded_table t) ≡ 0 → loaded_last (loaded_table t) ≡ 1024
