-- A table of examples for loading: what it answers, and tables that break the rule in one place. By hand.
use Rattle.std.specs.Prelude.{◌≡◌, Some, None, List, [], ◌∷◌, ◌++◌, map, ℕ, zero, suc, ◌+◌}
use Rattle.pluck_table.specs.Table.{table}
use Rattle.pluck_table.specs.Loading.{loaded_table, loaded_number, loaded_last}

-- n entries from x on, each d above the one before
abbrev entries : (n x d : ℕ) → List ℕ
entries zero x d = []
entries (suc n) x d = x ∷ entries n (x + d) d

-- entry j is 64·j; 0 up to 1023; 65536 from 1 on
abbrev pub straight : List ℕ
straight = entries 1025 0 64

abbrev pub late : List ℕ
late = entries 1024 0 0 ++ 65536 ∷ []

abbrev pub early : List ℕ
early = 0 ∷ entries 1024 65536 0

-- n entries of 0, some others, m of 65536 and the end
abbrev pub joined : (n : ℕ) → List ℕ → (m end : ℕ) → List ℕ
joined n xs m end = entries n 0 0 ++ (xs ++ (entries m 65536 0 ++ end ∷ []))

-- the numbers of loading some tables
abbrev numbers : List (List ℕ) → List ℕ
numbers ts = map (λ t. loaded_number (loaded_table t)) ts

pub record LoadingHold : Type 0 where
  -- of each answer the paper's number and its value; T's equal neighbours are fine
  pub answers :
      (map loaded_number (Some 1024 ∷ None ∷ []) ≡ 0 ∷ 14 ∷ []) × (map loaded_last (Some 1024 ∷ None ∷ []) ≡ 1024 ∷ 0 ∷ [])
      × (loaded_table table ≡ Some 1024) × (loaded_table straight ≡ Some 1024) × (loaded_table [] ≡ None)
  -- "or has another length": 3, 1024 and 1026 entries that keep the rule but for the length, and 1025; then none, and straight ones of 1024
  -- and 1026, which end elsewhere too
  pub lengths : numbers (joined 1 [] 1 65536 ∷ joined 1 [] 1022 65536 ∷ joined 1 [] 1024 65536 ∷ joined 1 [] 1023 65536
      ∷ [] ∷ entries 1024 0 64 ∷ entries 1026 0 64 ∷ []) ≡ 14 ∷ 14 ∷ 14 ∷ 0 ∷ 14 ∷ 14 ∷ 14 ∷ []
  -- "begin at 0, end at 65536": each end alone, too high or too low
  pub ends : numbers ((1 ∷ entries 1024 65536 0) ∷ entries 1025 65536 0 ∷ joined 1024 [] 0 65535 ∷ joined 1024 [] 0 65537
      ∷ entries 1025 0 0 ∷ []) ≡ 14 ∷ 14 ∷ 14 ∷ 14 ∷ 14 ∷ []
  -- "never fall": by 1 from the second entry, from the middle, from the last but two and from the last but one; from far above 65536
  pub falls : numbers (joined 1 (1 ∷ 0 ∷ []) 1021 65536 ∷ joined 512 (300 ∷ 299 ∷ []) 510 65536 ∷ joined 1022 (65537 ∷ []) 1 65536
      ∷ joined 1023 (65537 ∷ []) 0 65536 ∷ joined 512 (4294967295 ∷ []) 511 65536 ∷ []) ≡ 14 ∷ 14 ∷ 14 ∷ 14 ∷ 14 ∷ []
  -- equal neighbours, a leap at either end, no mirrored sum
  pub sound :
      numbers (late ∷ early ∷ joined 512 (300 ∷ 300 ∷ []) 510 65536 ∷ joined 3 (1 ∷ []) 1020 65536 ∷ []) ≡ 0 ∷ 0 ∷ 0 ∷ 0 ∷ []
