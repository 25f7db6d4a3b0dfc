-- A slice of zeros, and what is left of a slice whose front was written over.
use Rattle.std.proofs.Common.{◌≡◌, refl, sym, ap, subst, ◌∙◌, Bool, cond, List, ◌++◌, ℕ, zero, suc, ◌+◌, ◌-◌, ◌<◌, ◌≤◌, min}
use Rattle.std.proofs.Common.{ltb, ℤ, pos, length, take, drop, replicate, arith, length-append, length-take, length-drop}
use Rattle.std.proofs.lemmas.List.{get_or-take, get_or-drop, get_or_append_left, get_or-append_right}
use native.Mathlib.Decide.{ℕ_discrete}
use borrow.Author.Tests.{ltb-true, ltb-false, lt-ltb}
use lib.ListN.{set, length-set, length-replicate}
use lib.Seq.{get_or-set_same, get_or-set_other}
use Rattle.scheme.specs.Lists.{tabulate, point}
use Rattle.scheme.proofs.Laws.Bools.{cases}
use Rattle.scheme.proofs.Laws.Lists.{is_tabulate}
use Rattle.slices.specs.Slices.{copied}

pub zeros : (n k : ℕ) → point (replicate n (pos 0)) k ≡ pos 0
zeros zero k = refl
zeros (suc n) zero = refl
zeros (suc n) (suc k) = zeros n k

-- the same, point by point
pub zeros_are : (n : ℕ) → replicate n (pos 0) ≡ tabulate n (λ k. pos 0)
zeros_are n = is_tabulate n (λ k. pos 0) (pos 0) (replicate n (pos 0)) (length-replicate n (pos 0)) (λ k h. zeros n k)

-- ---- copies

-- the points below k have the values v, the others are as they were
pub record Passed (v : ℕ → ℤ) (xs₀ xs : List ℤ) (k : ℕ) : Type 0 where
  pub long : length xs ≡ length xs₀
  pub put : (j : ℕ) → j < k → point xs j ≡ v j
  pub kept : (j : ℕ) → k ≤ j → point xs j ≡ point xs₀ j

pub passed_none : (v : ℕ → ℤ) (xs : List ℤ) → Passed v xs xs 0
passed_none v xs = record { long = refl; put = λ j h. absurd (omega arith); kept = λ j h. refl }

-- one more
pub passed-more : {v : ℕ → ℤ} {xs₀ xs : List ℤ} {k : ℕ} → Passed v xs₀ xs k → k < length xs₀ → (x : ℤ) → x ≡ v k
    → Passed v xs₀ (set xs k x) (k + 1)
passed-more {v} {xs₀} {xs} {k} p h x e = record {
  long = length-set xs k x ∙ p.long;
  put = λ j l. go j l (ℕ_discrete j k);
  kept = λ j l. get_or-set_other xs k j x (pos 0) (λ s. omega arith) ∙ p.kept j (omega arith);
}
  where
    go : (j : ℕ) → j < k + 1 → Dec (j ≡ k) → point (set xs k x) j ≡ v j
    go j l (yes s) = subst (λ (j : ℕ). point (set xs k x) j ≡ v j) (sym s)
        (get_or-set_same xs k x (pos 0) (omega (arith, p.long)) ∙ e)
    go j l (no s) = get_or-set_other xs k j x (pos 0) s ∙ p.put j (omega (arith, s))

-- all that both have
pub passed-all : (xs ys₀ : List ℤ) {ys : List ℤ} {k : ℕ} → k ≡ min (length xs) (length ys₀) → Passed (point xs) ys₀ ys k
    → ys ≡ copied xs ys₀
unfolding copied
passed-all xs ys₀ {ys} {k} e p =
    is_tabulate (length ys₀) (λ k. cond (ltb k (length xs)) (point xs k) (point ys₀ k)) (pos 0) ys p.long
    (λ j l. cases (λ b. point ys j ≡ cond b (point xs j) (point ys₀ j)) (ltb j (length xs))
    (λ t. p.put j (omega (arith, e, ltb-true j (length xs) t)))
    (λ f. p.kept j (omega (arith, e, ltb-false j (length xs) f))))

-- the points that both have, from xs, and the others of ys
pub front_copied : (xs ys front : List ℤ) (n : ℕ) → n ≡ min (length xs) (length ys) → front ≡ take n xs
    → front ++ drop n ys ≡ copied xs ys
unfolding copied
front_copied xs ys front n e f =
    is_tabulate (length ys) (λ k. cond (ltb k (length xs)) (point xs k) (point ys k)) (pos 0) (front ++ drop n ys)
    (length-append front (drop n ys) ∙ omega (arith, long, length-drop n ys))
    (λ j l. cases (λ b. point (front ++ drop n ys) j ≡ cond b (point xs j) (point ys j)) (ltb j (length xs))
    (λ t. let h : j < n = omega (arith, ltb-true j (length xs) t) in
    get_or_append_left front (drop n ys) (pos 0) j (omega (arith, long)) ∙ ap (λ (zs : List ℤ). point zs j) f
    ∙ get_or-take n xs j (pos 0) h)
    (λ t. let h = ltb-false j (length xs) t in
    get_or-append_right front (drop n ys) n j (pos 0) long (omega arith) ∙ get_or-drop n ys (j - n) (pos 0)
    ∙ ap (point ys) (omega arith)))
  where
    long : length front ≡ n
    long = ap length f ∙ omega (arith, length-take n xs)

-- between slices of one length, all of them
pub copied-whole : (xs ys : List ℤ) → length xs ≡ length ys → copied xs ys ≡ xs
unfolding copied
copied-whole xs ys e =
    sym (is_tabulate (length ys) (λ k. cond (ltb k (length xs)) (point xs k) (point ys k)) (pos 0) xs e
    (λ j l. sym (ap (λ (b : Bool). cond b (point xs j) (point ys j)) (lt-ltb j (length xs) (omega arith)))))

-- the same of what was copied to
pub whole_copied : (xs ys zs : List ℤ) → zs ≡ copied xs ys → length xs ≡ length ys → zs ≡ xs
whole_copied xs ys zs e l = e ∙ copied-whole xs ys l
