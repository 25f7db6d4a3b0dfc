-- The arithmetic of a piece of signed code at 64 bits, written once as an expression:
-- what the machine asks of each step, and what it computes, follow by one law each.
-- `at z B h` is a number z that the code has in a local (a parameter,
-- an element that was read, what a callee returned), with h : nat_abs z ≤ B;
-- `num n` is a literal, and `via` any number with a `Num` of its own.
-- `raw e` is what the last step of e computes, in the machine's terms, and `red e` is that,
-- stored and read back. `val e` is the number that is meant, and `cap e` bounds it.
-- `fits e tt` answers a need, and `is e tt` says what came out. The `tt` is checked by computing `ok e`: no step's bound passes the width.
use mathlib.Core.Path.{◌≡◌, sym, subst}
use mathlib.Core.Bool.{Bool, ◌&&◌}
use Prim.Native.Nat.{ℕ, ◌+◌, ◌*◌, ◌^◌, ◌≤◌}
use lib.Dec.{T, ltb}
use lib.IntN.{ℤ, pos, nat_abs, ◌+ℤ◌, ◌-ℤ◌, ◌*ℤ◌}
use lib.Signed.{quot_z}
use mir.Facts.{and_yes}
use mir.Syntax.{w64}
use mir.Val.{SFits, to_z, of_z}
use Rattle.bounded.proofs.Num as N
use Rattle.bounded.proofs.Num.{Num, kept, given, ◌⊕◌, ◌⊖◌, ◌⊗◌, ◌⊘◌}

infixl 6 ◌⊞◌ ◌⊟◌
infixl 7 ◌⊠◌ ◌÷◌
pub data E : Type 0 where
  at : (z : ℤ) (B : ℕ) → nat_abs z ≤ B → E
  num : ℕ → E
  via : {r z : ℤ} {B : ℕ} → Num r z B → E
  ◌⊞◌ ◌⊟◌ ◌⊠◌ ◌÷◌ : E → E → E

abbrev pub red : E → ℤ
red (at z B h) = to_z w64 (of_z w64 z)
red (num n) = pos n
red (via {r = r} n) = r
red (a ⊞ b) = to_z w64 (of_z w64 (red a +ℤ red b))
red (a ⊟ b) = to_z w64 (of_z w64 (red a -ℤ red b))
red (a ⊠ b) = to_z w64 (of_z w64 (red a *ℤ red b))
red (a ÷ b) = to_z w64 (of_z w64 (quot_z (red a) (red b)))

abbrev pub raw : E → ℤ
raw (at z B h) = z
raw (num n) = pos n
raw (via {r = r} n) = r
raw (a ⊞ b) = red a +ℤ red b
raw (a ⊟ b) = red a -ℤ red b
raw (a ⊠ b) = red a *ℤ red b
raw (a ÷ b) = quot_z (red a) (red b)

abbrev pub val : E → ℤ
val (at z B h) = z
val (num n) = pos n
val (via {z = z} n) = z
val (a ⊞ b) = val a +ℤ val b
val (a ⊟ b) = val a -ℤ val b
val (a ⊠ b) = val a *ℤ val b
val (a ÷ b) = quot_z (val a) (val b)

abbrev pub cap : E → ℕ
cap (at z B h) = B
cap (num n) = n
cap (via {B = B} n) = B
cap (a ⊞ b) = cap a + cap b
cap (a ⊟ b) = cap a + cap b
cap (a ⊠ b) = cap a * cap b
cap (a ÷ b) = cap a

abbrev pub ok : E → Bool
ok (at z B h) = ltb B (2 ^ 63)
ok (num n) = ltb n (2 ^ 63)
ok (via {B = B} n) = ltb B (2 ^ 63)
ok (a ⊞ b) = ok a && (ok b && ltb (cap a + cap b) (2 ^ 63))
ok (a ⊟ b) = ok a && (ok b && ltb (cap a + cap b) (2 ^ 63))
ok (a ⊠ b) = ok a && (ok b && ltb (cap a * cap b) (2 ^ 63))
ok (a ÷ b) = ok a && ok b

fst : (a b : E) (x : Bool) → T (ok a && (ok b && x)) → T (ok a)
fst a b x t = (and_yes (ok a) _ t).0

snd : (a b : E) (x : Bool) → T (ok a && (ok b && x)) → T (ok b)
snd a b x t = (and_yes (ok b) x (and_yes (ok a) _ t).1).0

thd : (a b : E) (x : Bool) → T (ok a && (ok b && x)) → T x
thd a b x t = (and_yes (ok b) x (and_yes (ok a) _ t).1).1

under : (e : E) → T (ok e) → T (ltb (cap e) (2 ^ 63))
under (at z B h) t = t
under (num n) t = t
under (via n) t = t
under (a ⊞ b) t = thd a b _ t
under (a ⊟ b) t = thd a b _ t
under (a ⊠ b) t = thd a b _ t
under (a ÷ b) t = under a (and_yes (ok a) _ t).0

-- stored and read back
pub good : (e : E) → T (ok e) → Num (red e) (val e) (cap e)
good (at z B h) t = given h t
good (num n) t = N.lit n
good (via n) t = n
good (a ⊞ b) t = kept (good a (fst a b _ t) ⊕ good b (snd a b _ t)) (thd a b _ t)
good (a ⊟ b) t = kept (good a (fst a b _ t) ⊖ good b (snd a b _ t)) (thd a b _ t)
good (a ⊠ b) t = kept (good a (fst a b _ t) ⊗ good b (snd a b _ t)) (thd a b _ t)
good (a ÷ b) t = kept (good a (and_yes (ok a) _ t).0 ⊘ good b (and_yes (ok a) _ t).1) (under a (and_yes (ok a) _ t).0)

-- the last step's result
step : (e : E) → T (ok e) → Num (raw e) (val e) (cap e)
step (at z B h) t = N.exact h
step (num n) t = N.lit n
step (via n) t = n
step (a ⊞ b) t = good a (fst a b _ t) ⊕ good b (snd a b _ t)
step (a ⊟ b) t = good a (fst a b _ t) ⊖ good b (snd a b _ t)
step (a ⊠ b) t = good a (fst a b _ t) ⊗ good b (snd a b _ t)
step (a ÷ b) t = good a (and_yes (ok a) _ t).0 ⊘ good b (and_yes (ok a) _ t).1

pub fits : (e : E) → T (ok e) → SFits w64 (raw e)
fits e t = N.fits (step e t) (under e t)

pub is : (e : E) → T (ok e) → red e ≡ val e
is e t = (good e t).is

pub size : (e : E) → T (ok e) → nat_abs (val e) ≤ cap e
size e t = (good e t).size

-- what holds of the number that is meant holds of it as the machine has it
pub said : (P : ℤ → Type 0) (e : E) → T (ok e) → P (val e) → P (red e)
said P e t h = subst P (sym (is e t)) h

-- a product with a bound of one's own, where the computed one is too large: as the machine makes it, and stored
pub product : (a b : E) (B : ℕ) → T (ok a) → T (ok b) → nat_abs (val a *ℤ val b) ≤ B → Num (red a *ℤ red b) (val a *ℤ val b) B
product a b B p q h = record { is = λ i. is a p i *ℤ is b q i; size = h }

abbrev pub stored : {r z : ℤ} {B : ℕ} → Num r z B → T (ltb B (2 ^ 63)) → E
stored n t = via (kept n t)
