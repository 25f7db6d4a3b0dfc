-- A solver for identities of commutative rings over ℤ, by reflection.
-- `E` are polynomial expressions, `den` their meaning, `norm` their normal form, a list of monomials
-- sorted by a key, and `norm_sound` says that the two have one value.
-- An identity holds where the normal form of the difference of its sides is empty, a test that computes.
-- A monomial carries the list of its exponents, which the proof reads,
-- and one number (256 to the place of a variable, added up), by which it is sorted: one native comparison.
-- `ring 3 (λ x y z. x ⊗ (y ⊕ z) ≈ x ⊗ z ⊕ x ⊗ y) refl a b c : a *ℤ (b +ℤ c) ≡ a *ℤ c +ℤ a *ℤ b`
use mathlib.Core.Path.{◌≡◌, refl, sym, ◌∙◌, ap, ap₂, subst}
use mathlib.Core.List.{List, [], ◌∷◌}
use mathlib.Core.Bool.{Bool, true, false}
use Prim.Native.Nat.{ℕ, zero, suc, ◌+◌, ◌^◌, compare, Ordering}
use native.Mathlib.Nat.{add-zero, add-suc}
use lib.Dec.{T, eqb, eqb→eq}
use lib.IntN.{ℤ, pos, negsuc, neg_ℤ, ◌+ℤ◌, ◌-ℤ◌, ◌*ℤ◌, +ℤ_idl, +ℤ_idr, +ℤ_assoc, zero-*ℤ, *ℤ-zero}
use Rattle.integers.proofs.Laws.{add_mulℤ, mul_addℤ, neg_mulℤ, *ℤ_assoc, *ℤ_swap4, *ℤ_1, 1-*ℤ, +ℤ_left_comm, +ℤ_swap4, eq_of_sub}

infixl 6 ◌⊕◌ ◌⊖◌
infixl 7 ◌⊗◌
infix 8 ⊝◌
infix 4 ◌≈◌
pub data E : Type 0 where
  var : ℕ → E
  con : ℤ → E
  ◌⊕◌ : E → E → E
  ◌⊖◌ : E → E → E
  ◌⊗◌ : E → E → E
  ⊝◌ : E → E

pub data Eqn : Type 0 where
  ◌≈◌ : E → E → Eqn

-- a whole number that is not negative
infix 9 #◌
abbrev pub #◌ : ℕ → E
# n = con (pos n)

infix 9 ◌²
abbrev pub ◌² : E → E
e ² = e ⊗ e

abbrev pub nth : List ℤ → ℕ → ℤ
nth [] i = pos 1
nth (x ∷ ρ) zero = x
nth (x ∷ ρ) (suc i) = nth ρ i

abbrev pub den : E → List ℤ → ℤ
den (var i) ρ = nth ρ i
den (con c) ρ = c
den (a ⊕ b) ρ = den a ρ +ℤ den b ρ
den (a ⊖ b) ρ = den a ρ -ℤ den b ρ
den (a ⊗ b) ρ = den a ρ *ℤ den b ρ
den (⊝ a) ρ = neg_ℤ (den a ρ)

-- ---- normal forms: a monomial's key, exponents and coefficient, and the rest

pub data Poly : Type 0 where
  nil : Poly
  term : ℕ → List ℕ → ℤ → Poly → Poly

abbrev pub keep : ℤ → ℕ → List ℕ → Poly → Poly
keep (pos zero) k m p = p
keep (pos (suc n)) k m p = term k m (pos (suc n)) p
keep (negsuc n) k m p = term k m (negsuc n) p

abbrev pub eq_l : List ℕ → List ℕ → Bool
eq_l [] [] = true
eq_l [] (b ∷ vs) = false
eq_l (a ∷ us) [] = false
eq_l (a ∷ us) (b ∷ vs) = elim (eqb a b) [ true ↦ eq_l us vs | false ↦ false ]

-- r: the rest of the first form merged in past the second's head; s: the second form past the first's head; t: past both
abbrev pub step_e : Bool → ℕ → List ℕ → ℤ → ℤ → Poly → Poly → Poly
step_e true k m c c' s t = keep (c +ℤ c') k m t
step_e false k m c c' s t = term k m c s

abbrev pub step : Ordering → ℕ → List ℕ → ℤ → ℕ → List ℕ → ℤ → Poly → Poly → Poly → Poly
step Ordering.lt k m c k' m' c' r s t = term k m c s
step Ordering.eq k m c k' m' c' r s t = step_e (eq_l m m') k m c c' s t
step Ordering.gt k m c k' m' c' r s t = term k' m' c' r

abbrev pub inner : ℕ → List ℕ → ℤ → Poly → (Poly → Poly) → Poly → Poly
inner k m c p f nil = term k m c p
inner k m c p f (term k' m' c' q) =
    let r = inner k m c p f q in
    let s = f (term k' m' c' q) in
    let t = f q in
    step (compare k k') k m c k' m' c' r s t

abbrev pub merge : Poly → Poly → Poly
merge nil q = q
merge (term k m c p) q = inner k m c p (merge p) q

abbrev pub add_l : List ℕ → List ℕ → List ℕ
add_l [] vs = vs
add_l (a ∷ us) [] = a ∷ us
add_l (a ∷ us) (b ∷ vs) = (a + b) ∷ add_l us vs

abbrev pub times : ℕ → List ℕ → ℤ → Poly → Poly
times k m c nil = nil
times k m c (term k' m' c' q) = term (k + k') (add_l m m') (c *ℤ c') (times k m c q)

abbrev pub mul : Poly → Poly → Poly
mul nil q = nil
mul (term k m c p) q = merge (times k m c q) (mul p q)

abbrev pub unit_l : ℕ → List ℕ
unit_l zero = 1 ∷ []
unit_l (suc i) = 0 ∷ unit_l i

abbrev pub norm : E → Poly
norm (var i) = term (256 ^ i) (unit_l i) (pos 1) nil
norm (con c) = keep c 0 [] nil
norm (a ⊕ b) = merge (norm a) (norm b)
norm (a ⊖ b) = merge (norm a) (times 0 [] (negsuc 0) (norm b))
norm (a ⊗ b) = mul (norm a) (norm b)
norm (⊝ a) = times 0 [] (negsuc 0) (norm a)

-- without the constant, where that is not negative
abbrev pub drop_const : Poly → Poly
drop_const nil = nil
drop_const (term zero [] (pos n) p) = p
drop_const (term zero [] (negsuc n) p) = term 0 [] (negsuc n) p
drop_const (term zero (e ∷ es) c p) = term 0 (e ∷ es) c p
drop_const (term (suc k) m c p) = term (suc k) m c p

Full : Poly → Type 0
Full nil = ⊥
Full (term k m c p) = Unit {0}

-- ---- what a normal form stands for

pw : ℤ → ℕ → ℤ
pw x zero = pos 1
pw x (suc n) = pw x n *ℤ x

mev : List ℕ → List ℤ → ℤ
mev [] ρ = pos 1
mev (e ∷ es) [] = pos 1
mev (e ∷ es) (x ∷ ρ) = pw x e *ℤ mev es ρ

pev : Poly → List ℤ → ℤ
pev nil ρ = pos 0
pev (term k m c p) ρ = c *ℤ mev m ρ +ℤ pev p ρ

pw_add : (x : ℤ) (a b : ℕ) → pw x (a + b) ≡ pw x a *ℤ pw x b
unfolding pw
pw_add x a zero = ap (pw x) (add-zero a) ∙ sym (*ℤ_1 (pw x a))
pw_add x a (suc b) = ap (pw x) (add-suc a b) ∙ ap (λ y. y *ℤ x) (pw_add x a b) ∙ *ℤ_assoc (pw x a) (pw x b) x

mev_add : (m n : List ℕ) (ρ : List ℤ) → mev (add_l m n) ρ ≡ mev m ρ *ℤ mev n ρ
unfolding mev
mev_add [] n ρ = sym (1-*ℤ (mev n ρ))
mev_add (a ∷ us) [] ρ = sym (*ℤ_1 (mev (a ∷ us) ρ))
mev_add (a ∷ us) (b ∷ vs) [] = refl
mev_add (a ∷ us) (b ∷ vs) (x ∷ ρ) = ap₂ ◌*ℤ◌ (pw_add x a b) (mev_add us vs ρ) ∙ *ℤ_swap4 (pw x a) (pw x b) (mev us ρ) (mev vs ρ)

mev_unit : (i : ℕ) (ρ : List ℤ) → mev (unit_l i) ρ ≡ nth ρ i
unfolding mev pw
mev_unit zero [] = refl
mev_unit zero (x ∷ ρ) = *ℤ_1 (pos 1 *ℤ x) ∙ 1-*ℤ x
mev_unit (suc i) [] = refl
mev_unit (suc i) (x ∷ ρ) = 1-*ℤ (mev (unit_l i) ρ) ∙ mev_unit i ρ

keep_sound : (c : ℤ) (k : ℕ) (m : List ℕ) (p : Poly) (ρ : List ℤ) → pev (keep c k m p) ρ ≡ c *ℤ mev m ρ +ℤ pev p ρ
unfolding pev
keep_sound (pos zero) k m p ρ = sym (ap (λ x. x +ℤ pev p ρ) (zero-*ℤ (mev m ρ)) ∙ +ℤ_idl (pev p ρ))
keep_sound (pos (suc n)) k m p ρ = refl
keep_sound (negsuc n) k m p ρ = refl

eq_l_sound : (m n : List ℕ) → T (eq_l m n) → m ≡ n
eq_l_sound [] [] t = refl
eq_l_sound [] (b ∷ vs) t = absurd t
eq_l_sound (a ∷ us) [] t = absurd t
eq_l_sound (a ∷ us) (b ∷ vs) t = go (eqb a b) (eqb→eq a b) (eq_l us vs) (eq_l_sound us vs) t
  where
    go : (e : Bool) → (T e → a ≡ b) → (r : Bool) → (T r → us ≡ vs) → T (elim e as (λ x. Bool) [ true ↦ r | false ↦ false ]) → a ∷ us ≡ b
        ∷ vs
    go true f r g t = ap₂ ◌∷◌ (f tt) (g t)
    go false f r g t = absurd t

module _ (ρ : List ℤ) where
  step_e_sound : (b : Bool) (k : ℕ) (m m' : List ℕ) (c c' : ℤ) (p q s t : Poly) → (T b → m ≡ m')
      → pev s ρ ≡ pev p ρ +ℤ (c' *ℤ mev m' ρ +ℤ pev q ρ) → pev t ρ ≡ pev p ρ +ℤ pev q ρ
      → pev (step_e b k m c c' s t) ρ ≡ (c *ℤ mev m ρ +ℤ pev p ρ) +ℤ (c' *ℤ mev m' ρ +ℤ pev q ρ)
  unfolding pev
  step_e_sound true k m m' c c' p q s t e hs ht =
      keep_sound (c +ℤ c') k m t ρ
      ∙ ap₂ ◌+ℤ◌ (add_mulℤ c c' (mev m ρ) ∙ ap (λ x. c *ℤ mev m ρ +ℤ c' *ℤ mev x ρ) (e tt)) ht
      ∙ +ℤ_swap4 (c *ℤ mev m ρ) (c' *ℤ mev m' ρ) (pev p ρ) (pev q ρ)
  step_e_sound false k m m' c c' p q s t e hs ht =
      ap (λ x. c *ℤ mev m ρ +ℤ x) hs ∙ sym (+ℤ_assoc (c *ℤ mev m ρ) (pev p ρ) (c' *ℤ mev m' ρ +ℤ pev q ρ))

  step_sound : (o : Ordering) (k : ℕ) (m : List ℕ) (c : ℤ) (k' : ℕ) (m' : List ℕ) (c' : ℤ) (p q r s t : Poly)
      → pev r ρ ≡ (c *ℤ mev m ρ +ℤ pev p ρ) +ℤ pev q ρ
      → pev s ρ ≡ pev p ρ +ℤ (c' *ℤ mev m' ρ +ℤ pev q ρ) → pev t ρ ≡ pev p ρ +ℤ pev q ρ
      → pev (step o k m c k' m' c' r s t) ρ ≡ (c *ℤ mev m ρ +ℤ pev p ρ) +ℤ (c' *ℤ mev m' ρ +ℤ pev q ρ)
  unfolding pev
  step_sound Ordering.lt k m c k' m' c' p q r s t hr hs ht =
      ap (λ x. c *ℤ mev m ρ +ℤ x) hs ∙ sym (+ℤ_assoc (c *ℤ mev m ρ) (pev p ρ) (c' *ℤ mev m' ρ +ℤ pev q ρ))
  step_sound Ordering.eq k m c k' m' c' p q r s t hr hs ht = step_e_sound (eq_l m m') k m m' c c' p q s t (eq_l_sound m m') hs ht
  step_sound Ordering.gt k m c k' m' c' p q r s t hr hs ht =
      ap (λ x. c' *ℤ mev m' ρ +ℤ x) hr ∙ +ℤ_left_comm (c' *ℤ mev m' ρ) (c *ℤ mev m ρ +ℤ pev p ρ) (pev q ρ)

  inner_sound : (k : ℕ) (m : List ℕ) (c : ℤ) (p : Poly) (f : Poly → Poly) → ((q : Poly) → pev (f q) ρ ≡ pev p ρ +ℤ pev q ρ)
      → (q : Poly) → pev (inner k m c p f q) ρ ≡ (c *ℤ mev m ρ +ℤ pev p ρ) +ℤ pev q ρ
  unfolding pev
  inner_sound k m c p f h nil = sym (+ℤ_idr (c *ℤ mev m ρ +ℤ pev p ρ))
  inner_sound k m c p f h (term k' m' c' q) =
      step_sound (compare k k') k m c k' m' c' p q (inner k m c p f q) (f (term k' m' c' q)) (f q)
      (inner_sound k m c p f h q) (h (term k' m' c' q)) (h q)

  merge_sound : (p q : Poly) → pev (merge p q) ρ ≡ pev p ρ +ℤ pev q ρ
  unfolding pev
  merge_sound nil q = sym (+ℤ_idl (pev q ρ))
  merge_sound (term k m c p) q = inner_sound k m c p (merge p) (merge_sound p) q

  times_sound : (k : ℕ) (m : List ℕ) (c : ℤ) (q : Poly) → pev (times k m c q) ρ ≡ (c *ℤ mev m ρ) *ℤ pev q ρ
  unfolding pev
  times_sound k m c nil = sym (*ℤ-zero (c *ℤ mev m ρ))
  times_sound k m c (term k' m' c' q) =
      ap₂ ◌+ℤ◌ (ap (λ x. (c *ℤ c') *ℤ x) (mev_add m m' ρ) ∙ *ℤ_swap4 c c' (mev m ρ) (mev m' ρ)) (times_sound k m c q)
      ∙ sym (mul_addℤ (c *ℤ mev m ρ) (c' *ℤ mev m' ρ) (pev q ρ))

  mul_sound : (p q : Poly) → pev (mul p q) ρ ≡ pev p ρ *ℤ pev q ρ
  unfolding pev
  mul_sound nil q = sym (zero-*ℤ (pev q ρ))
  mul_sound (term k m c p) q =
      merge_sound (times k m c q) (mul p q) ∙ ap₂ ◌+ℤ◌ (times_sound k m c q) (mul_sound p q)
      ∙ sym (add_mulℤ (c *ℤ mev m ρ) (pev p ρ) (pev q ρ))

  negate_sound : (p : Poly) → pev (times 0 [] (negsuc 0) p) ρ ≡ neg_ℤ (pev p ρ)
  unfolding mev
  negate_sound p = times_sound 0 [] (negsuc 0) p ∙ neg_mulℤ (pos 1) (pev p ρ) ∙ ap neg_ℤ (1-*ℤ (pev p ρ))

  norm_sound : (e : E) → den e ρ ≡ pev (norm e) ρ
  unfolding pev mev
  norm_sound (var i) = sym (+ℤ_idr (pos 1 *ℤ mev (unit_l i) ρ) ∙ 1-*ℤ (mev (unit_l i) ρ) ∙ mev_unit i ρ)
  norm_sound (con c) = sym (keep_sound c 0 [] nil ρ ∙ +ℤ_idr (c *ℤ pos 1) ∙ *ℤ_1 c)
  norm_sound (a ⊕ b) = ap₂ ◌+ℤ◌ (norm_sound a) (norm_sound b) ∙ sym (merge_sound (norm a) (norm b))
  norm_sound (a ⊖ b) = ap₂ ◌+ℤ◌ (norm_sound a) (ap neg_ℤ (norm_sound b) ∙ sym (negate_sound (norm b)))
      ∙ sym (merge_sound (norm a) (times 0 [] (negsuc 0) (norm b)))
  norm_sound (a ⊗ b) = ap₂ ◌*ℤ◌ (norm_sound a) (norm_sound b) ∙ sym (mul_sound (norm a) (norm b))
  norm_sound (⊝ a) = ap neg_ℤ (norm_sound a) ∙ sym (negate_sound (norm a))

  -- a form that comes to nothing
  pub zero_sound : (e : E) → norm e ≡ nil → den e ρ ≡ pos 0
  unfolding pev
  zero_sound e h = norm_sound e ∙ ap (λ p. pev p ρ) h

  -- a form that comes to a natural number
  pub const_sound : (e : E) → drop_const (norm e) ≡ nil → (n : ℕ) × (den e ρ ≡ pos n)
  unfolding pev mev Full
  const_sound e h = go (norm e) h (norm_sound e)
    where
      go : (p : Poly) → drop_const p ≡ nil → den e ρ ≡ pev p ρ → (n : ℕ) × (den e ρ ≡ pos n)
      go nil h s = (0, s)
      go (term zero [] (pos n) p) h s = (n, s ∙ ap₂ ◌+ℤ◌ (*ℤ_1 (pos n)) (ap (λ q. pev q ρ) h) ∙ +ℤ_idr (pos n))
      go (term zero [] (negsuc n) p) h s = absurd (subst Full h tt)
      go (term zero (e ∷ es) c p) h s = absurd (subst Full h tt)
      go (term (suc k) m c p) h s = absurd (subst Full h tt)

-- ---- the solver

-- a function of n expressions
abbrev pub Of : ℕ → Type 0 → Type 0
Of zero R = R
Of (suc n) R = E → Of n R

-- its value at n variables: the first argument is variable n − 1, the last variable 0
abbrev pub applied : {R : Type 0} (n : ℕ) → Of n R → R
applied zero r = r
applied (suc n) f = applied n (f (var n))

-- a statement about n whole numbers, the last of them first in the list
abbrev pub ForAll : ℕ → (List ℤ → Type 0) → List ℤ → Type 0
ForAll zero P ρ = P ρ
ForAll (suc n) P ρ = (x : ℤ) → ForAll n P (x ∷ ρ)

pub for_all : (n : ℕ) (P : List ℤ → Type 0) → ((ρ : List ℤ) → P ρ) → (ρ : List ℤ) → ForAll n P ρ
for_all zero P h ρ = h ρ
for_all (suc n) P h ρ = λ x. for_all n P h (x ∷ ρ)

-- closed by `refl`; where it is not, the refusal shows what is left over, `term KEY EXPONENTS COEFFICIENT REST`
abbrev pub Holds : Eqn → Type 0
Holds (a ≈ b) = norm (a ⊖ b) ≡ nil

abbrev pub Says : Eqn → List ℤ → Type 0
Says (a ≈ b) ρ = den a ρ ≡ den b ρ

holds_says : (e : Eqn) → Holds e → (ρ : List ℤ) → Says e ρ
holds_says (a ≈ b) h ρ = eq_of_sub (den a ρ) (den b ρ) (zero_sound ρ (a ⊖ b) h)

-- an identity of n whole numbers
pub ring : (n : ℕ) (e : Of n Eqn) → Holds (applied n e) → ForAll n (Says (applied n e)) []
ring n e h = for_all n (Says (applied n e)) (holds_says (applied n e) h) []
