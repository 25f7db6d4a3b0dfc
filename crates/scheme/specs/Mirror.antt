-- Request 5: "A percussionist strikes from below and expects the mirror image."
-- Its proofs are in proofs/: `mirror_image`, `mirror_measures`, `program_mirror_image`.
use Rattle.std.specs.Prelude.{◌≡◌, List, [], ◌++◌, map, ℕ, ℤ, pos, neg_ℤ, length, take, drop, replicate, Option, Some, None}
use Rattle.types.specs.declared.Instrument.{Instrument}
use Rattle.types.specs.declared.Hit.{Hit}
use Rattle.types.specs.Numbers.{hit_at}
use Rattle.scheme.specs.Book.{Book, Call, block_call, in_place_call, pluck_call, pluck_with_call, Outcome, block_outcome, in_place_outcome}
use Rattle.scheme.specs.Book.{pluck_outcome, Left, State, start, AfterCalls, calls}
use Rattle.scheme.specs.Claims.{book_energy, distance}
use Rattle.scheme.specs.Program.{Made, AllKept, calls_of, after_made}

-- "points are negatives": every point of a level
abbrev pub negated : List ℤ → List ℤ
negated xs = map neg_ℤ xs

-- ---- the two lists

-- "hits that are negatives at the same steps and points"
abbrev pub mirror_hit : Option Hit → Option Hit
mirror_hit None = None
mirror_hit (Some h) = hit_at h.point (neg_ℤ h.force)

-- "with calls otherwise the same"; "It covers plucks of negated height too."
abbrev pub mirror_call : Call → Call
mirror_call (block_call i work samples pick h) = block_call i work samples pick (mirror_hit h)
mirror_call (in_place_call i samples pick h) = in_place_call i samples pick (mirror_hit h)
mirror_call (pluck_call g c w a) = pluck_call g c w (neg_ℤ a)
mirror_call (pluck_with_call g c w a lent) = pluck_with_call g c w (neg_ℤ a) lent

-- ---- what they give

-- "negated samples for the steps done": the later places are as they were lent, in both
abbrev pub mirror_samples : (steps : ℕ) → List ℤ → List ℤ
mirror_samples n xs = negated (take n xs) ++ drop n xs

-- "equal counts and equal refusals": the whole answer; work is alike
abbrev pub mirror_outcome : Outcome → Outcome
mirror_outcome (block_outcome a work samples) = block_outcome a work (mirror_samples a.steps samples)
mirror_outcome (in_place_outcome a samples) = in_place_outcome a (mirror_samples a.steps samples)
mirror_outcome (pluck_outcome r) = pluck_outcome r

-- "negated levels"
abbrev pub mirror_left : Left → Left
mirror_left l = record { outcome = mirror_outcome l.outcome; older = negated l.older; newer = negated l.newer }

-- the book beside them: its levels negated, the same n and the same last step
abbrev pub mirror_book : Book → Book
mirror_book b = record { n = b.n; older = negated b.older; newer = negated b.newer; last = b.last }

-- levels and book, and the same sum of counts
abbrev pub mirror_state : State → State
mirror_state t = record {
  older = negated t.older;
  newer = negated t.newer;
  book = mirror_book t.book;
  inexact = t.inexact;
}

-- "all along": what each call of the list left, and the state after the last
abbrev pub mirror_after : AfterCalls → AfterCalls
mirror_after a = record { left = map mirror_left a.left; state = mirror_state a.state }

-- ---- the claim

-- "two starts whose points are negatives": the mirrored list from the one gives the mirror image of what the list gives from the other
abbrev pub MirroredFrom : (older newer : List ℤ) → List Call → Type 0
MirroredFrom older newer ks =
    calls (map mirror_call ks) (start (negated older) (negated newer)) ≡ mirror_after (calls ks (start older newer))

-- any two starting levels, any list of calls, refused ones included
abbrev pub MirrorImage : Type 0
MirrorImage = (older newer : List ℤ) (ks : List Call) → MirroredFrom older newer ks

-- ---- energy and distance

-- the energy of two books, and the squared distances of newer from them, are the same
pub record MeasuredAlike (t u : State) : Type 0 where
  pub energies : (i : Instrument) → book_energy i u.book ≡ book_energy i t.book
  pub distances : (i : Instrument)
      → distance i u.book.n u.newer u.book.newer ≡ distance i t.book.n t.newer t.book.newer

-- of every state and its mirror image, so of those that a list or a program and its mirror image reach
abbrev pub MirrorMeasures : Type 0
MirrorMeasures = (t : State) → MeasuredAlike t (mirror_state t)

-- ---- two programs

-- a call with zeros in the work level and in the sample buffer that were lent to it
abbrev pub blank : Call → Call
blank (block_call i work samples pick h) = block_call i (replicate (length work) (pos 0)) (replicate (length samples) (pos 0)) pick h
blank (in_place_call i samples pick h) = in_place_call i (replicate (length samples) (pos 0)) pick h
blank (pluck_call g c w a) = pluck_call g c w a
blank (pluck_with_call g c w a lent) = pluck_with_call g c w a lent

-- what a call answered, and the samples of its steps done
abbrev pub heard : Outcome → Outcome
heard (block_outcome a work samples) = block_outcome a [] (take a.steps samples)
heard (in_place_outcome a samples) = in_place_outcome a (take a.steps samples)
heard (pluck_outcome r) = pluck_outcome r

-- with both levels
abbrev pub heard_left : Left → Left
heard_left l = record { outcome = heard l.outcome; older = l.older; newer = l.newer }

abbrev pub heard_after : AfterCalls → AfterCalls
heard_after a = record { left = map heard_left a.left; state = a.state }

-- Two programs whose calls are mirrored and keep their promises, whatever their sample buffers and work levels held before each call: a
-- buffer that is lent again holds other samples in the one than in the other. A program's points have 64 bits: −2⁶³ alone has no negative
-- there, so it is in neither start; it lies beyond the ceiling (`LowestBeyond` of MirrorExamples).
abbrev pub ProgramMirrorImage : Type 0
ProgramMirrorImage = (older newer : List ℤ) (ms ns : List Made)
    → AllKept ms (start older newer) → AllKept ns (start (negated older) (negated newer))
    → map blank (calls_of ns) ≡ map mirror_call (map blank (calls_of ms))
    → heard_after (after_made ns (start (negated older) (negated newer))) ≡ mirror_after (heard_after (after_made ms (start older newer)))
