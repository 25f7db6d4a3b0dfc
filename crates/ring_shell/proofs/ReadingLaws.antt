-- What the reads of a line tell of the reader's bytes.
use Rattle.std.proofs.Common.{◌≡◌, ℕ, ◌+◌, ◌-◌, ◌≤◌, Bool, true, false, List, [], ◌∷◌, ◌++◌, length, take, drop}
use Rattle.std.proofs.Common.{arith, refl, sym, ap, subst, ◌∙◌, append_assoc}
use mathlib.Core.Bool.{cond, ◌||◌, true≢false}
use lib.Dec.{eqb, leb}
use Rattle.std.specs.Prelude.{Some, None, Ok, Err, IfSome, OnOk}
use Rattle.std.specs.List.{list_any}
use Rattle.std.specs.Io.KnownBytes.{Appends, Consumes}
use Rattle.std.specs.declared.option.Option.{Option}
use Rattle.std.specs.declared.result.Result.{Result}
use Rattle.std.proofs.lemmas.List.{take_at}
use borrow.Author.Tests.{le-leb}
use Rattle.std.proofs.Math.Seq.{length-take-le, take-add, take-append-add}
use Rattle.ring_line.specs.Lists.{before}
use Rattle.ring_line.specs.Requests.{line_feed}
use Rattle.ring_line.specs.declared.asked.Numbers.{Numbers}
use Rattle.ring_line.specs.Requests.{line_request, request_of}
use Rattle.ring_listing.specs.Text.{over, room}
use Rattle.ring_shell.specs.Answer.{text_for, answer, written_to}
use Rattle.ring_shell.proofs.AnswerLaws.{first_bytes_tell}
use Rattle.ring_shell.specs.Reading.{SameLine}

-- ---- what comes after the first that is s tells nothing

before_in : (s : ℕ) (q r : List ℕ) → list_any (λ b. eqb b s) q ≡ true → before s (q ++ r) ≡ before s q
unfolding before
before_in s [] r h = absurd (true≢false (sym h))
before_in s (b ∷ bs) r h = go (eqb b s) h (before_in s bs r)
  where
    go : (t : Bool) → (t || list_any (λ b. eqb b s) bs) ≡ true → (list_any (λ b. eqb b s) bs ≡ true → before s (bs ++ r) ≡ before s bs) →
        cond t [] (b ∷ before s (bs ++ r)) ≡ cond t [] (b ∷ before s bs)
    go true h e = refl
    go false h e = ap (λ (l : List ℕ). b ∷ l) (e h)

before_found : (s : ℕ) (p q r : List ℕ) → list_any (λ b. eqb b s) q ≡ true → before s (p ++ (q ++ r)) ≡ before s (p ++ q)
unfolding before
before_found s [] q r h = before_in s q r h
before_found s (b ∷ bs) q r h = ap (λ (l : List ℕ). cond (eqb b s) [] (b ∷ l)) (before_found s bs q r h)

-- ---- one read after the others

pub consumed_on : (old mid new : Option (List ℕ)) (n came : ℕ) (a b : List ℕ) → Consumes old mid (take n a) → take n b ≡ take n a →
    Consumes mid new (take came (drop n b)) → Consumes old new (take (n + came) b)
consumed_on None mid new n came a b p e q = tt
consumed_on (Some xs) None new n came a b p e q = absurd p
consumed_on (Some xs) (Some ys) None n came a b p e q = absurd q
consumed_on (Some xs) (Some ys) (Some zs) n came a b p e q =
    cc (p, e, q, take-add n came b, append_assoc (take n b) (take came (drop n b)) zs)

-- ---- where a line feed came

line_of : (s room n came : ℕ) (b ys : List ℕ) → n + came ≤ length b → length b ≡ room →
    list_any (λ b. eqb b s) (take came (drop n b)) ≡ true → before s (take (n + came) b) ≡ before s (take room (take (n + came) b ++ ys))
line_of s room n came b ys h l f =
    let read : List ℕ = take (n + came) b in
    let m : ℕ = room - (n + came) in
    let split : read ≡ take n b ++ take came (drop n b) = take-add n came b in
    let size : length read + m ≡ room = omega (arith, length-take-le (n + came) b h) in
    ap (before s) split
    ∙ sym (before_found s (take n b) (take came (drop n b)) (take m ys) f)
    ∙ ap (before s)
    (sym (append_assoc (take n b) (take came (drop n b)) (take m ys))
    ∙ ap (λ (k : List ℕ). k ++ take m ys) (sym split)
    ∙ sym (take-append-add read ys m)
    ∙ ap (λ (k : ℕ). take k (read ++ ys)) size)

pub found_line : (old new : Option (List ℕ)) (room n came : ℕ) (b : List ℕ) → n + came ≤ length b → length b ≡ room →
    Consumes old new (take (n + came) b) → list_any (λ b. eqb b line_feed) (take (n + came - n) (drop n b)) ≡ true →
    IfSome old (SameLine room (take (n + came) b))
found_line None new room n came b h l p f = tt
found_line (Some xs) None room n came b h l p f = absurd p
found_line (Some xs) (Some ys) room n came b h l p f =
    let same : n + came - n ≡ came = omega arith in
    let here = ap (λ (k : ℕ). list_any (λ b. eqb b line_feed) (take k (drop n b))) (sym same) ∙ f in
    line_of line_feed room n came b ys h l here ∙ ap (λ (k : List ℕ). before line_feed (take room k)) (sym p)

-- ---- the answer

same_answer : (read there : List ℕ) → SameLine 256 read there → answer read ≡ answer there
unfolding answer request_of
same_answer read there e = ap (λ (l : List ℕ). text_for (asked l)) e ∙ first_bytes_tell there
  where
    asked : List ℕ → Option Numbers
    asked l = cond (leb (length l) 255) (line_request l) None

pub answer_there : (there read buffer out : List ℕ) (size : ℕ) → room ≤ length buffer → size ≡ length (written_to buffer read) →
    out ≡ over (written_to buffer read) buffer → SameLine 256 read there → take size out ≡ answer there
unfolding written_to
answer_there there read buffer out size h e o same =
    let text : List ℕ = answer read in
    let all : written_to buffer read ≡ text = ap (λ (t : Bool). cond t text []) (le-leb room (length buffer) h) in
    ap (λ (k : ℕ). take k out) (e ∙ ap length all)
    ∙ ap (take (length text)) (o ∙ ap (λ (l : List ℕ). over l buffer) all)
    ∙ take_at text (drop (length text) buffer) (length text) refl
    ∙ same_answer read there same

-- ---- what is written

pub printed : {T E : Type 0} (r : Result T E) (remaining old new : Option (List ℕ)) (read buffer out : List ℕ) (size : ℕ) →
    room ≤ length buffer → size ≡ length (written_to buffer read) → out ≡ over (written_to buffer read) buffer →
    IfSome remaining (SameLine 256 read) → OnOk r (Appends old new (take size out)) → OnOk r
    (IfSome remaining (λ all. Appends old new (answer all)))
printed (Ok u) None old new read buffer out size h e o same w = tt
printed (Ok u) (Some all) old new read buffer out size h e o same w =
    subst (Appends old new) (answer_there all read buffer out size h e o same) w
printed (Err x) remaining old new read buffer out size h e o same w = tt
