-- Laws of loading: what never falls, by its first entries; and a table is loaded exactly where it keeps the rule of a shape.
use mathlib.Core.Path.{◌≡◌, refl, sym, ap, ap₂, ◌∙◌, subst}
use mathlib.Core.Bool.{Bool, true, false, ◌&&◌, cond, true≢false}
use mathlib.Core.List.{List, [], ◌∷◌}
use Prim.Native.Nat.{ℕ, zero, suc, ◌+◌, ◌-◌, ◌≤◌, ◌<◌}
use native.Mathlib.Nat.{le_of_suc-le-suc, not-suc-le-zero}
use native.Mathlib.Omega.{arith}
use borrow.Author.Tests.{eq-eqb, eqb-true, le-leb}
use lib.Dec.{T, leb}
use lib.ListN.{length, get_or, take}
use Rattle.pluck_table.specs.Table.{ShapeRule, table}
use Rattle.pluck_table.specs.Loading.{never_falls, keeps_rule, loaded_table, loaded_number, loaded_last, TablesLoaded}
use Rattle.pluck_table.proofs.TableLaws.{rises, table_rule}
use Rattle.std.specs.Prelude.{Some, None, Option}

-- ---- the first entries

pub first_rises : (t : List ℕ) → never_falls (take 1 t) ≡ true
first_rises [] = refl
first_rises (x ∷ xs) = refl

assoc : (a b c : Bool) → (a && (b && c)) ≡ ((a && b) && c)
assoc true b c = refl
assoc false b c = refl

last_true : (a : Bool) → (a && true) ≡ a
last_true true = refl
last_true false = refl

one_more_lem : (t : List ℕ) (k : ℕ) → suc k < length t
    → never_falls (take (suc (suc k)) t) ≡ (never_falls (take (suc k) t) && leb (get_or t k 0) (get_or t (suc k) 0))
one_more_lem [] k h = absurd (not-suc-le-zero h)
one_more_lem (x ∷ []) k h = absurd (not-suc-le-zero (le_of_suc-le-suc h))
one_more_lem (x ∷ y ∷ ys) zero h = last_true (leb x y)
one_more_lem (x ∷ y ∷ ys) (suc k) h =
    ap (λ (b : Bool). leb x y && b) (one_more_lem (y ∷ ys) k (le_of_suc-le-suc h)) ∙ assoc (leb x y) (never_falls (take (suc k) (y ∷ ys))) _

-- an entry more: the one before it and itself
pub more_rises : (t : List ℕ) (j : ℕ) → 1 ≤ j → j < length t
    → (never_falls (take j t) && leb (get_or t (j - 1) 0) (get_or t j 0)) ≡ never_falls (take (j + 1) t)
more_rises t zero l h = absurd (not-suc-le-zero l)
more_rises t (suc k) l h =
    let e : suc k + 1 ≡ suc (suc k) = omega arith in
    let b : suc k - 1 ≡ k = omega arith in
    ap (λ (m : ℕ). never_falls (take (suc k) t) && leb (get_or t m 0) (get_or t (suc k) 0)) b ∙ sym (one_more_lem t k h) ∙
    ap (λ (m : ℕ). never_falls (take m t)) (sym e)

-- ---- the rule

-- entries that never fall, one by one
pub not_falling : (xs : List ℕ) → ((k : ℕ) → suc k < length xs → get_or xs k 0 ≤ get_or xs (suc k) 0) → never_falls xs ≡ true
not_falling [] r = refl
not_falling (x ∷ []) r = refl
not_falling (x ∷ y ∷ ys) r =
    ap₂ ◌&&◌ (le-leb x y (r zero (omega arith))) (not_falling (y ∷ ys) (λ k h. r (suc k) (omega (arith, h))))

pub keeps : (t : List ℕ) → ShapeRule t → keeps_rule t ≡ true
unfolding keeps_rule
keeps t r =
    let ends = ap₂ ◌&&◌ (eq-eqb (get_or t 0 0) 0 r.begins) (eq-eqb (get_or t 1024 0) 65536 r.ends) in
    ap₂ ◌&&◌ (eq-eqb (length t) 1025 r.long) (ap₂ ◌&&◌ ends (not_falling t (λ k h. r.rises k (omega (arith, h, r.long)))))

-- a table that keeps the rule is loaded
pub loads : (t : List ℕ) → ShapeRule t → loaded_table t ≡ Some 1024
unfolding loaded_table
loads t r = ap (λ (b : Bool). cond b (Some 1024) None) (keeps t r)

split : {a b : Bool} → (a && b) ≡ true → (a ≡ true) × (b ≡ true)
split {a = true} e = (refl, e)
split {a = false} e = absurd (true≢false (sym e))

-- what was loaded keeps it
keeps_rule_lem : (t : List ℕ) → keeps_rule t ≡ true → ShapeRule t
unfolding keeps_rule
keeps_rule_lem t e =
    let p = split e in
    let q = split p.1 in
    let r = split q.0 in
    let long = eqb-true (length t) 1025 p.0 in
    record {
      long = long;
      begins = eqb-true (get_or t 0 0) 0 r.0;
      ends = eqb-true (get_or t 1024 0) 65536 r.1;
      rises = λ j h. rises t (subst T (sym q.1) tt) j (omega (arith, h, long));
    }

pub kept : (t : List ℕ) → loaded_number (loaded_table t) ≡ 0 → ShapeRule t
unfolding loaded_table
kept t = go (keeps_rule t) refl
  where
    go : (b : Bool) → keeps_rule t ≡ b → loaded_number (cond b (Some 1024) None) ≡ 0 → ShapeRule t
    go true k e = keeps_rule_lem t k
    go false k e = absurd (omega (arith, e))

-- and its last place is 1024
pub last_is : (t : List ℕ) (last : ℕ) → loaded_table t ≡ Some last → last ≡ 1024
last_is t last e = ap loaded_last (sym e ∙ loads t (kept t (ap loaded_number e)))

-- one that does not keep it is broken
pub unkept : (t : List ℕ) → (ShapeRule t → ⊥) → loaded_table t ≡ None
unfolding loaded_table
unkept t breaks = go (keeps_rule t) refl
  where
    go : (b : Bool) → keeps_rule t ≡ b → cond {A = Option ℕ} b (Some 1024) None ≡ None
    go true k = absurd (breaks (keeps_rule_lem t k))
    go false k = refl

-- by its length, by its first entry, by its last
pub length_wrong : (t : List ℕ) → (length t ≡ 1025 → ⊥) → loaded_table t ≡ None
length_wrong t h = unkept t (λ r. h r.long)

pub first_wrong : (t : List ℕ) → (get_or t 0 0 ≡ 0 → ⊥) → loaded_table t ≡ None
first_wrong t h = unkept t (λ r. h r.begins)

pub last_wrong : (t : List ℕ) → (get_or t 1024 0 ≡ 65536 → ⊥) → loaded_table t ≡ None
last_wrong t h = unkept t (λ r. h r.ends)

-- by what the test of its entries says
pub falling : (t : List ℕ) → never_falls t ≡ false → loaded_table t ≡ None
falling t f = unkept t (λ r. true≢false (sym (not_falling t (λ k h. r.rises k (omega (arith, h, r.long)))) ∙ f))

pub rising : (t : List ℕ) → length t ≡ 1025 → get_or t 0 0 ≡ 0 → get_or t 1024 0 ≡ 65536 → never_falls t ≡ true
    → loaded_table t ≡ Some 1024
rising t l b e n =
    loads t (record { long = l; begins = b; ends = e; rises = λ j h. rises t (subst T (sym n) tt) j (omega (arith, h, l)) })

pub tables_loaded : TablesLoaded
tables_loaded = record {
  loads = λ t r. ap loaded_number (loads t r);
  kept = kept;
  last = λ t e. ap loaded_last (loads t (kept t e));
}

-- T is one
pub table_loads : loaded_table table ≡ Some 1024
table_loads = loads table table_rule.shape

-- what each test of `load_table` says of the answer
pub ruleset loading = (length_wrong, first_wrong, last_wrong, falling, rising)
