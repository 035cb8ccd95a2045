use Rattle.std.proofs.Common.{◌≡◌, ◌⊎◌, inl, inr, ◌<◌, ◌≤◌, ◌+◌, ℕ, IsTrue, arith, rules}
use Rattle.std.proofs.lemmas.Bool.{cases_lt}
use Rattle.silence.specs.Holding.{Holds}
use Rattle.silence.specs.Zero.{IsZeroAt, sound_by}
use Rattle.silence.proofs.zeros.first_sounding.Goals as goal

-- a property before and from a sample frame on holds for the whole range
both : (P : ℕ → Type 0) (from at to : ℕ) → ((frame : ℕ) → from ≤ frame → frame < at → P frame)
    → ((frame : ℕ) → at ≤ frame → frame < to → P frame) → (frame : ℕ) → from ≤ frame → frame < to → P frame
both P from at to before behind frame low high = by_place (cases_lt frame at) where
  by_place : (frame < at) ⊎ (at ≤ frame) → P frame
  by_place (inl early) = before frame low early
  by_place (inr late) = behind frame late high

pub returns-in-Some-clause-held : goal.returns-in-Some-clause-held
returns-in-Some-clause-held g c = λ honest so.
    let now : IsTrue (g.S.Shelf.honest c.loop-at.shelf) = search rules in
    let files : g.S.Shelf.stored c.loop-at.shelf ≡ g.S.Shelf.stored c.args.shelf.now = search rules in
    (rw files at (c.in_ok-reach.ensures.so now)) (c.loop-at.invariant.held honest so)

pub returns-in-Some-clause-found : goal.returns-in-Some-clause-found
returns-in-Some-clause-found g c = λ honest so.
    let now : IsTrue (g.S.Shelf.honest c.loop-at.shelf) = search rules in
    let files : g.S.Shelf.stored c.loop-at.shelf ≡ g.S.Shelf.stored c.args.shelf.now = search rules in
    let part = c.args.part.now in
    let sound = sound_by (g.S.Shelf.stored c.args.shelf.now) c.args.sound.now in
    let held : Holds sound c.reach.new.self =
    (rw files at (c.in_ok-reach.ensures.so now)) (c.loop-at.invariant.held honest so) in
    let first = c.in-Some.ensures.found sound held in
    let behind = c.loop-at.invariant.behind in
    let least = c.min.ensures in
    let within = first.1 in (
      omega arith,
      omega arith,
      both (IsZeroAt sound part.first part.width) part.from c.loop-at.at (c.loop-at.at + c.in-Some.i)
          (c.loop-at.invariant.zero honest so) first.2,
      first.3,
    )

pub loop-at-preserved : goal.loop-at-preserved
loop-at-preserved g c =
    let there = c.in_ok-reach.ensures.there in
    let from = there.from in
    let below = there.below in
    let behind = c.loop-at.invariant.behind in
    let least = c.min.ensures in
    let end = c.end.ensures in
    record {
      behind = omega (arith, c.loop-at-test.true);
      within = omega arith;
      quiet = search rules;
      same_file = λ _. there.same_file;
      held = λ honest so _.
          let now : IsTrue (g.S.Shelf.honest c.loop-at.shelf) = search rules in
          let files : g.S.Shelf.stored c.loop-at.shelf ≡ g.S.Shelf.stored c.args.shelf.now = search rules in
          (rw files at (c.in_ok-reach.ensures.so now)) (c.loop-at.invariant.held honest so);
      zero = λ honest so.
          let now : IsTrue (g.S.Shelf.honest c.loop-at.shelf) = search rules in
          let files : g.S.Shelf.stored c.loop-at.shelf ≡ g.S.Shelf.stored c.args.shelf.now = search rules in
          let part = c.args.part.now in
          let sound = sound_by (g.S.Shelf.stored c.args.shelf.now) c.args.sound.now in
          let held : Holds sound c.reach.new.self =
          (rw files at (c.in_ok-reach.ensures.so now)) (c.loop-at.invariant.held honest so) in
          both (IsZeroAt sound part.first part.width) part.from c.loop-at.at c.min.result
          (c.loop-at.invariant.zero honest so) (c.in_default.ensures.found sound held);
    }

pub returns-clause-found : goal.returns-clause-found
returns-clause-found g c = λ honest so frame low high. c.loop-at.invariant.zero honest so frame low (omega arith)

pub returns-clause-held : goal.returns-clause-held
returns-clause-held g c = λ honest so. c.loop-at.invariant.held honest so (c.loop-at.invariant.same_file (omega arith))
