-- The order of ℤ (`◌≤ℤ◌` of lib.Signed): its laws, and the passage between `a ≤ℤ b` and a natural number that is added.
use mathlib.Core.Path.{◌≡◌, refl, sym, ◌∙◌, ap, ap₂, subst}
use mathlib.Core.Logic.{◌⊎◌, inl, inr}
use Prim.Native.Nat.{ℕ, zero, suc, ◌+◌, ◌*◌, ◌≤◌, ◌<◌, zero-le, suc-le-suc}
use native.Mathlib.Nat as N
use native.Mathlib.Numerals.{add-one}
use native.Mathlib.Omega.{arith}
use lib.Dec.{T, leb→le, le→leb, ltb→lt, lt→ltb}
use lib.IntN.{ℤ, pos, negsuc, suc_ℤ, nat_abs, neg_ℤ, ◌+ℤ◌, ◌-ℤ◌, ◌*ℤ◌, +ℤ_idl, +ℤ_idr, +ℤ_assoc, +ℤ_invl, +ℤ-suc_ℤ, +ℤ_one}
use lib.Signed.{◌≤ℤ◌, ◌<ℤ◌, le_z, lt_z, ≤ℤ_refl}
use Rattle.integers.proofs.Ring.{◌⊕◌, ◌⊖◌, ◌⊗◌, ⊝◌, #◌, ◌≈◌, ring}

-- the order, under a name that binds more weakly than the sum (`◌≤ℤ◌` binds more tightly)
infix 4 ◌⩽◌ ◌⋖◌
abbrev pub ◌⩽◌ : ℤ → ℤ → Type 0
a ⩽ b = ◌≤ℤ◌ a b

abbrev pub ◌⋖◌ : ℤ → ℤ → Type 0
a ⋖ b = ◌<ℤ◌ a b

-- ---- naturals
pub pos≤ : {a b : ℕ} → a ≤ b → pos a ⩽ pos b
pos≤ {a} {b} h = record { le = le→leb a b h }

pub ≤pos : {a b : ℕ} → pos a ⩽ pos b → a ≤ b
≤pos {a} {b} h = leb→le a b h.le

pub 0≤pos : (n : ℕ) → pos 0 ⩽ pos n
0≤pos n = pos≤ zero-le

-- ---- the laws of an order
trans' : (a b c : ℤ) → T (le_z a b) → T (le_z b c) → T (le_z a c)
trans' (pos a) (pos b) (pos c) h k = le→leb a c (N.le_trans (leb→le a b h) (leb→le b c k))
trans' (pos a) (pos b) (negsuc c) h k = k
trans' (pos a) (negsuc b) c h k = absurd h
trans' (negsuc a) (pos b) (pos c) h k = tt
trans' (negsuc a) (pos b) (negsuc c) h k = absurd k
trans' (negsuc a) (negsuc b) (pos c) h k = tt
trans' (negsuc a) (negsuc b) (negsuc c) h k = le→leb c a (N.le_trans (leb→le c b k) (leb→le b a h))

pub ≤ℤ_trans : {a b c : ℤ} → a ⩽ b → b ⩽ c → a ⩽ c
≤ℤ_trans {a} {b} {c} h k = record { le = trans' a b c h.le k.le }

pub ≤ℤ_of_eq : {a b : ℤ} → a ≡ b → a ⩽ b
≤ℤ_of_eq {a} h = subst (λ x. a ⩽ x) h (≤ℤ_refl a)

-- transport by equations: the left side, the right side
pub ≡-≤ℤ : {a b c : ℤ} → a ≡ b → b ⩽ c → a ⩽ c
≡-≤ℤ {c = c} h k = subst (λ x. x ⩽ c) (sym h) k

pub ≤ℤ-≡ : {a b c : ℤ} → a ⩽ b → b ≡ c → a ⩽ c
≤ℤ-≡ {a} h k = subst (λ x. a ⩽ x) k h

-- ---- a ≤ b where b is a and a natural
up' : (a : ℤ) → T (le_z a (suc_ℤ a))
up' (pos n) = le→leb n (suc n) (N.le-suc n)
up' (negsuc zero) = tt
up' (negsuc (suc n)) = le→leb n (suc n) (N.le-suc n)

pub ≤ℤ_add : (a : ℤ) (n : ℕ) → a ⩽ a +ℤ pos n
≤ℤ_add a zero = ≤ℤ_of_eq (sym (+ℤ_idr a))
≤ℤ_add a (suc n) = ≤ℤ-≡ (≤ℤ_trans (≤ℤ_add a n) (record { le = up' (a +ℤ pos n) })) (sym (+ℤ-suc_ℤ a (pos n)))

pub ≤ℤ_intro : {a b : ℤ} (n : ℕ) → b ≡ a +ℤ pos n → a ⩽ b
≤ℤ_intro {a} n h = ≤ℤ-≡ (≤ℤ_add a n) (sym h)

dest' : (a b : ℤ) → T (le_z a b) → (n : ℕ) × (b ≡ a +ℤ pos n)
dest' (pos a) (pos b) h = let d = N.le_dest (leb→le a b h) in (d.0, ap pos (sym d.1))
dest' (pos a) (negsuc b) h = absurd h
dest' (negsuc a) (pos b) h = (
  suc a + b,
  sym (sym (+ℤ_assoc (negsuc a) (pos (suc a)) (pos b)) ∙ ap (λ x. x +ℤ pos b) (+ℤ_invl (pos (suc a)))
      ∙ +ℤ_idl (pos b)),
)
dest' (negsuc a) (negsuc b) h = let d = N.le_dest (leb→le b a h) in
    (d.0, sym (ap (λ x. negsuc x +ℤ pos d.0) (sym d.1) ∙ down b d.0))
  where
    down : (b k : ℕ) → negsuc (b + k) +ℤ pos k ≡ negsuc b
    down b k = ap (λ x. neg_ℤ (pos x) +ℤ pos k) (sym (N.suc-add b k)) ∙ ring 2 (λ x y. ⊝ (x ⊕ y) ⊕ y ≈ ⊝ x) refl (pos (suc b)) (pos k)

pub ≤ℤ_dest : {a b : ℤ} → a ⩽ b → (n : ℕ) × (b ≡ a +ℤ pos n)
≤ℤ_dest {a} {b} h = dest' a b h.le

-- a number that is not negative is a natural
pub nonneg_dest : {a : ℤ} → pos 0 ⩽ a → (n : ℕ) × (a ≡ pos n)
nonneg_dest h = let d = ≤ℤ_dest h in (d.0, d.1 ∙ +ℤ_idl (pos d.0))

-- ---- differences
pub ≤ℤ_of_sub : {a b : ℤ} → pos 0 ⩽ b -ℤ a → a ⩽ b
≤ℤ_of_sub {a} {b} h = let d = nonneg_dest h in ≤ℤ_intro d.0 (ring 2 (λ a b. b ≈ a ⊕ (b ⊖ a)) refl a b ∙ ap (λ x. a +ℤ x) d.1)

pub sub_nonneg : {a b : ℤ} → a ⩽ b → pos 0 ⩽ b -ℤ a
sub_nonneg {a} {b} h = let d = ≤ℤ_dest h in ≤ℤ_intro d.0
    (ap (λ x. x -ℤ a) d.1 ∙ ring 2 (λ a n. a ⊕ n ⊖ a ≈ # 0 ⊕ n) refl a (pos d.0))

-- the pattern for an inequality: the difference of its sides is something that is not negative
pub le_by : {a b c : ℤ} → pos 0 ⩽ c → b -ℤ a ≡ c → a ⩽ b
le_by h e = ≤ℤ_of_sub (≤ℤ-≡ h (sym e))

-- ---- sums and products
pub +ℤ_mono : {a b c d : ℤ} → a ⩽ b → c ⩽ d → a +ℤ c ⩽ b +ℤ d
+ℤ_mono {a} {b} {c} {d} h k = let p = ≤ℤ_dest h in let q = ≤ℤ_dest k in
    ≤ℤ_intro (p.0 + q.0) (ap₂ ◌+ℤ◌ p.1 q.1
    ∙ ring 4 (λ a m c n. (a ⊕ m) ⊕ (c ⊕ n) ≈ (a ⊕ c) ⊕ (m ⊕ n)) refl a (pos p.0) c (pos q.0))

pub nonneg_add : {a b : ℤ} → pos 0 ⩽ a → pos 0 ⩽ b → pos 0 ⩽ a +ℤ b
nonneg_add h k = +ℤ_mono h k

pub nonneg_mul : {a b : ℤ} → pos 0 ⩽ a → pos 0 ⩽ b → pos 0 ⩽ a *ℤ b
nonneg_mul h k = let p = nonneg_dest h in let q = nonneg_dest k in
    ≤ℤ_intro (p.0 * q.0) (ap₂ ◌*ℤ◌ p.1 q.1 ∙ sym (+ℤ_idl (pos (p.0 * q.0))))

pub *ℤ_mono_l : {a b : ℤ} (c : ℤ) → pos 0 ⩽ c → a ⩽ b → c *ℤ a ⩽ c *ℤ b
*ℤ_mono_l {a} {b} c hc h = le_by (nonneg_mul hc (sub_nonneg h)) (ring 3 (λ a b c. c ⊗ b ⊖ c ⊗ a ≈ c ⊗ (b ⊖ a)) refl a b c)

pub *ℤ_mono_r : {a b : ℤ} (c : ℤ) → pos 0 ⩽ c → a ⩽ b → a *ℤ c ⩽ b *ℤ c
*ℤ_mono_r {a} {b} c hc h = le_by (nonneg_mul hc (sub_nonneg h)) (ring 3 (λ a b c. b ⊗ c ⊖ a ⊗ c ≈ c ⊗ (b ⊖ a)) refl a b c)

-- 0 ≤ a ≤ b and 0 ≤ c ≤ d
pub *ℤ_mono : {a b c d : ℤ} → pos 0 ⩽ b → pos 0 ⩽ c → a ⩽ b → c ⩽ d → a *ℤ c ⩽ b *ℤ d
*ℤ_mono {a} {b} {c} {d} hb hc h k = ≤ℤ_trans (*ℤ_mono_r c hc h) (*ℤ_mono_l b hb k)

pub square_nonneg : (a : ℤ) → pos 0 ⩽ a *ℤ a
square_nonneg (pos n) = 0≤pos (n * n)
square_nonneg (negsuc n) = 0≤pos (suc n * suc n)

-- ---- cases
pub ≤_totalℕ : (a b : ℕ) → (a ≤ b) ⊎ (b ≤ a)
≤_totalℕ zero b = inl zero-le
≤_totalℕ (suc a) zero = inr zero-le
≤_totalℕ (suc a) (suc b) = both (≤_totalℕ a b)
  where
    both : (a ≤ b) ⊎ (b ≤ a) → (suc a ≤ suc b) ⊎ (suc b ≤ suc a)
    both (inl h) = inl (omega arith)
    both (inr h) = inr (omega arith)

-- squares are in the order of what is squared
pub root_mono : (a b : ℕ) → a * a ≤ b * b → a ≤ b
root_mono zero b h = zero-le
root_mono (suc a) b h = go (≤_totalℕ (suc a) b)
  where
    go : (suc a ≤ b) ⊎ (b ≤ suc a) → suc a ≤ b
    go (inl l) = l
    go (inr l) = N.le_of_mul-le-mul_right {k = suc a} (N.le_trans h (N.mul-le-mul_left b l)) (omega arith)

pub ≤ℤ_total : (a b : ℤ) → (a ⩽ b) ⊎ (b ⩽ a)
≤ℤ_total (pos a) (pos b) = go (≤_totalℕ a b)
  where
    go : (a ≤ b) ⊎ (b ≤ a) → (pos a ⩽ pos b) ⊎ (pos b ⩽ pos a)
    go (inl h) = inl (pos≤ h)
    go (inr h) = inr (pos≤ h)
≤ℤ_total (pos a) (negsuc b) = inr (record { le = tt })
≤ℤ_total (negsuc a) (pos b) = inl (record { le = tt })
≤ℤ_total (negsuc a) (negsuc b) = go (≤_totalℕ a b)
  where
    go : (a ≤ b) ⊎ (b ≤ a) → (negsuc a ⩽ negsuc b) ⊎ (negsuc b ⩽ negsuc a)
    go (inl h) = inr (record { le = le→leb a b h })
    go (inr h) = inl (record { le = le→leb b a h })

-- a ≤ b, or a is b and one more and a natural
pub le_or_above : (a b : ℤ) → (a ⩽ b) ⊎ ((n : ℕ) × (a ≡ b +ℤ pos (suc n)))
le_or_above a b = go (≤ℤ_total a b)
  where
    more : (n : ℕ) → a ≡ b +ℤ pos n → (a ⩽ b) ⊎ ((n : ℕ) × (a ≡ b +ℤ pos (suc n)))
    more zero e = inl (≤ℤ_of_eq (e ∙ +ℤ_idr b))
    more (suc n) e = inr (n, e)

    go : (a ⩽ b) ⊎ (b ⩽ a) → (a ⩽ b) ⊎ ((n : ℕ) × (a ≡ b +ℤ pos (suc n)))
    go (inl h) = inl h
    go (inr h) = let d = ≤ℤ_dest h in more d.0 d.1

pub pos≰0 : {n : ℕ} → 0 < n → pos n ⩽ pos 0 → ⊥
pos≰0 {n} p h = N.lt_irrefl 0 (N.lt_of_lt_of_le p (≤pos h))

-- ---- less than
lt_suc' : (a b : ℤ) → T (lt_z a b) → T (le_z (suc_ℤ a) b)
lt_suc' (pos a) (pos b) h = h
lt_suc' (pos a) (negsuc b) h = h
lt_suc' (negsuc zero) (pos b) h = le→leb 0 b zero-le
lt_suc' (negsuc zero) (negsuc b) h = absurd (N.not-suc-le-zero (ltb→lt b 0 h))
lt_suc' (negsuc (suc a)) (pos b) h = tt
lt_suc' (negsuc (suc a)) (negsuc b) h = le→leb b a (N.le_of_suc-le-suc (ltb→lt b (suc a) h))

suc_lt' : (a b : ℤ) → T (le_z (suc_ℤ a) b) → T (lt_z a b)
suc_lt' (pos a) (pos b) h = h
suc_lt' (pos a) (negsuc b) h = h
suc_lt' (negsuc zero) (pos b) h = tt
suc_lt' (negsuc zero) (negsuc b) h = absurd h
suc_lt' (negsuc (suc a)) (pos b) h = tt
suc_lt' (negsuc (suc a)) (negsuc b) h = lt→ltb b (suc a) (suc-le-suc (leb→le b a h))

pub <ℤ_le : {a b : ℤ} → a ⋖ b → a +ℤ pos 1 ⩽ b
<ℤ_le {a} {b} h = ≡-≤ℤ (+ℤ_one a) (record { le = lt_suc' a b h.lt })

pub le-<ℤ : {a b : ℤ} → a +ℤ pos 1 ⩽ b → a ⋖ b
le-<ℤ {a} {b} h = record { lt = suc_lt' a b (≡-≤ℤ (sym (+ℤ_one a)) h).le }

pub <ℤ_weaken : {a b : ℤ} → a ⋖ b → a ⩽ b
<ℤ_weaken {a} h = ≤ℤ_trans (≤ℤ_add a 1) (<ℤ_le h)

-- a positive factor cancels; first as a literal successor
cancel' : (k : ℕ) (x y : ℤ) → pos (suc k) *ℤ x ⩽ pos (suc k) *ℤ y → x ⩽ y
cancel' k x y h = go (le_or_above x y)
  where
    -- k(y + n + 1) ≤ k y says that k(n + 1) ≤ 0
    go : (x ⩽ y) ⊎ ((n : ℕ) × (x ≡ y +ℤ pos (suc n))) → x ⩽ y
    go (inl r) = r
    go (inr d) = absurd (pos≰0 {n = suc k * suc d.0} (N.mul-pos (N.zero-lt-suc k) (N.zero-lt-suc d.0))
        (≤ℤ_of_sub (≤ℤ-≡ (sub_nonneg (≡-≤ℤ (ap (λ z. pos (suc k) *ℤ z) (sym d.1)) h))
        (ring 3 (λ k y n. k ⊗ y ⊖ k ⊗ (y ⊕ n) ≈ # 0 ⊖ k ⊗ n) refl (pos (suc k)) y (pos (suc d.0))))))

pub *ℤ_cancel : {a x y : ℤ} → pos 0 ⋖ a → a *ℤ x ⩽ a *ℤ y → x ⩽ y
*ℤ_cancel {a} {x} {y} ha h = let d = ≤ℤ_dest (<ℤ_le ha) in
    let e : a ≡ pos (suc d.0) = d.1 ∙ ap pos (N.add_comm 1 d.0 ∙ add-one d.0) in
    cancel' d.0 x y (subst (λ z. z *ℤ x ⩽ z *ℤ y) e h)

pub 0<pos : (n : ℕ) → pos 0 ⋖ pos (suc n)
0<pos n = le-<ℤ (pos≤ (omega arith))

pub pos< : {n : ℕ} → 0 < n → pos 0 ⋖ pos n
pos< h = le-<ℤ (pos≤ (omega arith))

pub mul-positive : {a b : ℤ} → pos 0 ⋖ a → pos 0 ⋖ b → pos 0 ⋖ a *ℤ b
mul-positive {a} {b} h k = le-<ℤ (*ℤ_mono (<ℤ_weaken h) (0≤pos 1) (<ℤ_le h) (<ℤ_le k))

-- ---- back to ℕ: an identity or an inequality of naturals from one of ℤ,
-- since `pos a +ℤ pos b` computes to `pos (a + b)` and `pos a *ℤ pos b` to `pos (a * b)`
pub pos_inj : {a b : ℕ} → pos a ≡ pos b → a ≡ b
pos_inj h = ap nat_abs h

pub pos-suc : (n : ℕ) → pos (suc n) ≡ pos 1 +ℤ pos n
pos-suc n = let e : suc n ≡ 1 + n = omega arith in ap pos e
