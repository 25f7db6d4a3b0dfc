-- Laws of `tabulate`, `times`, `some_below`, `count_below` and `point`.
use mathlib.Core.Path.{◌≡◌, refl, sym, ap, ap₂, ◌∙◌}
use mathlib.Core.Bool.{Bool, true, false, cond, true≢false}
use mathlib.Core.List.{List, [], ◌∷◌, map}
use Prim.Native.Nat.{ℕ, zero, suc, ◌+◌, ◌≤◌, ◌<◌}
use native.Mathlib.Nat.{le_of_suc-le-suc}
use native.Mathlib.Decide.{ℕ_discrete}
use native.Mathlib.Omega.{arith}
use lib.IntN.{ℤ, pos, ◌*ℤ◌, *ℤ-zero}
use lib.ListN.{length, get_or, get_or-map}
use lib.Seq.{ext_get_or}
use Rattle.integers.proofs.Ring.{#◌, ◌⊗◌, ◌≈◌, ring}
use Rattle.scheme.specs.Lists.{tabulate, point, times, some_below, count_below}
use Rattle.scheme.proofs.Laws.Bools.{cases, or_neither, neither_or}

-- ---- tabulate

pub length-tabulate : {A : Type 0} (n : ℕ) (f : ℕ → A) → length (tabulate n f) ≡ n
unfolding tabulate
length-tabulate zero f = refl
length-tabulate (suc n) f = ap suc (length-tabulate n (λ i. f (suc i)))

pub get_d_tabulate : {A : Type 0} (n : ℕ) (f : ℕ → A) (i : ℕ) (d : A) → i < n → get_or (tabulate n f) i d ≡ f i
unfolding tabulate
get_d_tabulate zero f i d h = absurd (omega arith)
get_d_tabulate (suc n) f zero d h = refl
get_d_tabulate (suc n) f (suc i) d h = get_d_tabulate n (λ i. f (suc i)) i d (le_of_suc-le-suc h)

-- a list of n entries, each of which is f's
pub is_tabulate : {A : Type 0} (n : ℕ) (f : ℕ → A) (d : A) (xs : List A) → length xs ≡ n → ((i : ℕ) → i < n → get_or xs i d ≡ f i) → xs
    ≡ tabulate n f
is_tabulate n f d xs l h =
    ext_get_or d xs (tabulate n f) (l ∙ sym (length-tabulate n f))
    (λ i p. h i (omega (arith, l)) ∙ sym (get_d_tabulate n f i d (omega (arith, l))))

-- what f's values have, and 0 has, is had at every place
pub point-tabulate : (P : ℤ → Type 0) (n : ℕ) (f : ℕ → ℤ) (i : ℕ) → (i < n → P (f i)) → P (pos 0) → P (point (tabulate n f) i)
unfolding tabulate
point-tabulate P zero f i h z = z
point-tabulate P (suc n) f zero h z = h (omega arith)
point-tabulate P (suc n) f (suc i) h z = point-tabulate P n (λ k. f (suc k)) i (λ p. h (omega arith)) z

-- a rule applied to each of f's values gives g's
pub map-tabulate : (r : ℤ → ℤ) (n : ℕ) (f g : ℕ → ℤ) → ((k : ℕ) → k < n → r (f k) ≡ g k) → map r (tabulate n f) ≡ tabulate n g
unfolding tabulate
map-tabulate r zero f g h = refl
map-tabulate r (suc n) f g h =
    ap₂ ◌∷◌ (h 0 (omega arith)) (map-tabulate r n (λ k. f (suc k)) (λ k. g (suc k)) (λ k p. h (suc k) (omega arith)))

-- ---- times

pub point_scaled : (k : ℤ) (xs : List ℤ) (i : ℕ) → point (times k xs) i ≡ k *ℤ point xs i
point_scaled k xs i = ap (λ (d : ℤ). get_or (times k xs) i d) (sym (*ℤ-zero k)) ∙ get_or-map (λ z. k *ℤ z) xs i (pos 0)

pub times_one : (xs : List ℤ) → times (pos 1) xs ≡ xs
times_one [] = refl
times_one (x ∷ xs) = ap₂ ◌∷◌ (ring 1 (λ x. # 1 ⊗ x ≈ x) refl x) (times_one xs)

pub times-times : (a b : ℤ) (xs : List ℤ) → times (b *ℤ a) xs ≡ times a (times b xs)
times-times a b [] = refl
times-times a b (x ∷ xs) = ap₂ ◌∷◌ (ring 3 (λ a b x. (b ⊗ a) ⊗ x ≈ a ⊗ (b ⊗ x)) refl a b x) (times-times a b xs)

-- ---- some_below

-- none below n passes: at each
pub none_at : (n : ℕ) (p : ℕ → Bool) → some_below n p ≡ false → (i : ℕ) → i < n → p i ≡ false
unfolding some_below
none_at zero p e i h = absurd (omega arith)
none_at (suc n) p e i h = go (or_neither (some_below n p) (p n) e) (ℕ_discrete i n) (λ f l. none_at n p f i l)
  where
    go : (some_below n p ≡ false) × (p n ≡ false) → Dec (i ≡ n) → (some_below n p ≡ false → i < n → p i ≡ false) → p i ≡ false
    go f (yes q) k = ap p q ∙ f.1
    go f (no q) k = k f.0 (omega (arith, q))

pub none_below : (n : ℕ) (p : ℕ → Bool) → ((i : ℕ) → i < n → p i ≡ false) → some_below n p ≡ false
unfolding some_below
none_below zero p h = refl
none_below (suc n) p h = neither_or (none_below n p (λ i q. h i (omega arith))) (h n (omega arith))

-- one that passes is enough
pub some_at : (n : ℕ) (p : ℕ → Bool) (i : ℕ) → i < n → p i ≡ true → some_below n p ≡ true
some_at n p i h e = cases (λ b. b ≡ true) (some_below n p) (λ q. refl) (λ q. absurd (true≢false (sym e ∙ none_at n p q i h)))

-- ---- count_below

-- one more
pub count_next : (p : ℕ → Bool) (n : ℕ) → count_below (n + 1) p ≡ count_below n p + cond (p n) 1 0
unfolding count_below
count_next p n = ap (λ (m : ℕ). count_below m p) (let e : n + 1 ≡ suc n = omega arith in e)

pub count_most : (p : ℕ → Bool) (n : ℕ) → count_below n p ≤ n
unfolding count_below
count_most p zero = omega arith
count_most p (suc n) = cases (λ b. count_below n p + cond b 1 0 ≤ suc n) (p n) (λ e. omega (arith, count_most p n))
    (λ e. omega (arith, count_most p n))

-- where none counts: at each
pub count_none : (p : ℕ → Bool) (n : ℕ) → ((k : ℕ) → k < n → p k ≡ false) → count_below n p ≡ 0
unfolding count_below
count_none p zero h = refl
count_none p (suc n) h = ap₂ (λ (a : ℕ) (b : Bool). a + cond b 1 0) (count_none p n (λ k l. h k (omega arith))) (h n (omega arith))

pub count-zero : (p : ℕ → Bool) (n : ℕ) → count_below n p ≡ 0 → (k : ℕ) → k < n → p k ≡ false
unfolding count_below
count-zero p zero e k l = absurd (omega arith)
count-zero p (suc n) e k l = cases (λ b. count_below n p + cond b 1 0 ≡ 0 → p n ≡ b → p k ≡ false) (p n)
    (λ t f g. absurd (omega (arith, f))) (λ t f g. go (ℕ_discrete k n) (count-zero p n (omega (arith, f)) k) g) e refl
  where
    go : Dec (k ≡ n) → (k < n → p k ≡ false) → p n ≡ false → p k ≡ false
    go (yes q) f g = ap p q ∙ g
    go (no q) f g = f (omega (arith, q))
