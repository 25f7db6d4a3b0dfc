use Rattle.std.proofs.Common.{◌≡◌, ◌+◌, ◌<◌, ◌≤◌, length, refl, sym, ap, ◌∙◌, subst, arith}
use Rattle.std.proofs.lemmas.List.{set-get_or}
use mir.Syntax.{w16}
use mir.ValLaws.{to_z-of_z}
use Rattle.scheme.proofs.Laws.Refusals.{passes_low}
use Rattle.turns.specs.Turns.{of_two, next_turn, turn_after}
use Rattle.steps.specs.Steps.{Played}
use Rattle.turns.proofs.TurnLaws.{two_after, turn_start, turn_next}
use Rattle.steps.proofs.PlayLaws.{playing_start, playing_steppable, samples_long, stepped_passes, playing_on, playing_ends}
use Rattle.steps.proofs.PlayLaws.{playing_done, playing_turned, room_turned, played-kept}
use Rattle.steps.proofs.play.play.Goals as goal

pub loop-j-init : goal.loop-j-init
loop-j-init c = record {
  playing = playing_start c.requires.0.given c.args.pick c.args.samples.now;
  room = c.requires.0.given.room;
  turn_is = turn_start c.args.first;
}

-- of two levels the third slice has room for a piece, as it had first
pub step_in_turn-requires : goal.step_in_turn-requires
step_in_turn-requires c =
    let inv = c.loop-j.invariant in
    let begins = c.requires.0 in
    record {
      given = playing_steppable begins.given c.hit_after-h.ensures inv.playing inv.room;
      third = λ two.
          let was = sym (two_after c.args.first c.loop-j.j) ∙ sym (ap of_two inv.turn_is) ∙ two in
          omega (arith, begins.third was);
    }

pub returns-in_default : goal.returns-in_default
returns-in_default c =
    let inv = c.loop-j.invariant in
    let left = c.in_default.ensures in
    let place : c.loop-j.j < length c.args.samples.now = omega arith in (
      subst (Played _ _ _ _ _) (sym (set-get_or _ _ _))
          (played-kept left refl
          (playing_ends inv.playing place c.hit_after-h.ensures left.stepped _ refl)),
      inv.turn_is,
    )

pub sample_in_turn-requires : goal.sample_in_turn-requires
sample_in_turn-requires c =
    let place : c.loop-j.j < length c.args.samples.now = omega arith in
    let next = stepped_passes c.loop-j.invariant.playing place c.hit_after-h.ensures c.in-Some.ensures.stepped refl in
    (omega (arith, next.long, c.requires.1), passes_low _ _ next)

pub loop-j-preserved : goal.loop-j-preserved
loop-j-preserved c =
    let inv = c.loop-j.invariant in
    let left = c.in-Some.ensures in
    let turned = c.next-turn.ensures in
    let sample = c.sample_in_turn in
    let place : c.loop-j.j < length c.args.samples.now = omega arith in
    let held = to_z-of_z w16 sample.result (record { sfits = sample.type_inv }) in
    record {
      playing = playing_turned left turned
          (playing_on inv.playing place c.hit_after-h.ensures left.stepped refl _ (held ∙ sample.ensures) _
          c.capped_sum-inexact.ensures);
      room = room_turned left turned inv.playing.older_passes inv.playing.newer_passes;
      turn_is = turned ∙ ap next_turn inv.turn_is ∙ turn_next c.args.first c.loop-j.j (c.loop-j.j + 1) (omega arith);
    }

pub returns : goal.returns
returns c =
    let inv = c.loop-j.invariant in
    let long = samples_long inv.playing in
    let all : c.loop-j.j ≡ length c.loop-j.samples = omega (arith, long) in
    let last : length c.args.samples.now ≤ c.loop-j.j = omega (arith, long) in
    (playing_done inv.playing _ _ all last, inv.turn_is ∙ ap (turn_after c.args.first) all)
