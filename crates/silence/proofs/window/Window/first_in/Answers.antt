use Rattle.std.proofs.Common.{◌≡◌, ◌*◌, ◌≤◌, length, sym, ap, ◌∙◌, subst, arith}
use Rattle.silence.specs.Holding.{Held, HasPart, Holds}
use Rattle.silence.proofs.First.{found_below}
use Rattle.silence.proofs.Frames.{count_held, first_held}
use Rattle.silence.proofs.window.Window.first_in.Goals as goal

-- the window has a sample for each channel of its sample frames
room_of : (c : goal.After-first_in_frames) → c.self.inside.count * c.self.inside.channels ≤ length c.deref.result.now
room_of c = omega (arith, c.self.invariant, c.deref.ensures.len)

-- the window as seen by the code
abbrev held_of : goal.After-first_in_frames → Held
held_of c = record {
  file = c.self.inside.file;
  channels = c.self.inside.channels;
  from = c.self.inside.from;
  count = c.self.inside.count;
  samples = c.deref.result.now;
}

same : (c : goal.After-first_in_frames) → held_of c ≡ c.args.self.now
same c = ap (λ l. record (held_of c) { samples = l }) c.deref.ensures.value ∙ c.self.view_is

part_held : (c : goal.After-first_in_frames) → HasPart (held_of c) c.args.part.now
part_held c = subst (λ h. HasPart h c.args.part.now) (sym (same c)) c.requires

pub returns-clause-found : goal.returns-clause-found
returns-clause-found c = λ sound holds.
    first_held sound (held_of c) c.args.part.now (subst (Holds sound) (sym (same c)) holds) (part_held c) (room_of c)
    (omega (arith, c.self.invariant)) c.first_in_frames.result
    (rw (c.from-first.ensures, c.from-width.ensures) at c.first_in_frames.ensures)

pub returns-clause-within : goal.returns-clause-within
returns-clause-within c =
    found_below _ _ c.first_in_frames.result
    (rw (count_held (held_of c) c.args.part.now (part_held c) (room_of c) (omega (arith, c.self.invariant))) at
    c.first_in_frames.ensures)
