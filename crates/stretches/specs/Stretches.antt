-- Stretches of points: what lies of one in a range, where it ends, whether a hit is in it. Vocabulary between the engine's crates: no call
-- that a maker embeds cites it.
use Rattle.std.specs.Prelude.{Bool, false, cond, ◌&&◌, ℕ, ◌+◌, leb, ltb, Option, None, Some}
use Rattle.types.specs.declared.Hit.{Hit}
use Rattle.scheme.specs.Step.{force_of}
use Rattle.stretches.specs.declared.Stretch.{Stretch}

-- k, or the end of from..to that is nearer to it
unfoldable pub clamp : (from to : ℕ) → ℕ → ℕ
clamp from to k = let a = cond (ltb from k) k from in cond (ltb a to) a to

-- what lies of a stretch in a..e
abbrev pub part_of : Stretch → (a e : ℕ) → Stretch
part_of s a e = record {
  from = clamp s.from s.to a;
  to = clamp s.from s.to e;
  force = s.force;
  base = s.base;
  write = s.write;
}

-- a stretch, written or not
abbrev pub with_write : Stretch → Bool → Stretch
with_write s write = record { from = s.from; to = s.to; force = s.force; base = s.base; write = write }

-- the end of the stretch at a, of points as far as e: the hit's point is one of its own, and the others end before it (`ends`)
unfoldable pub end_of : Option Hit → (a e : ℕ) → ℕ
end_of None a e = e
end_of (Some h) a e = cond (ltb h.point a) e (clamp (a + 1) e h.point)

-- the stretch at `at`, of the points of a row: the hit's force there on each of its points
abbrev pub stretch_at : (row : Stretch) → Option Hit → (at : ℕ) → Stretch
stretch_at row h at = record { from = at; to = end_of h at row.to; force = force_of h at; base = row.base; write = row.write }

-- whether a hit is at one of the points from..to
unfoldable pub hit_in : Option Hit → (from to : ℕ) → Bool
hit_in None from to = false
hit_in (Some h) from to = leb from h.point && ltb h.point to
