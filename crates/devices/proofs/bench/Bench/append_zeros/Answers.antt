use Rattle.std.proofs.Common.{◌≡◌, ◌∙◌, ◌++◌, ◌+◌, ◌-◌, ◌*◌, ◌/◌, ◌%◌, ◌≤◌, ℕ, List, Option, Some, IsSome, take, replicate, refl, sym, ap, subst, arith}
use Rattle.std.proofs.lemmas.List.{replicate-append-replicate, take-replicate}
use Rattle.devices.specs.AppendLaws.{and_then, at_once, said, stopped}
use Rattle.devices.proofs.bench.Bench.append_zeros.Goals as goal

abbrev zeros : ℕ → List ℕ
zeros n = replicate n 0

-- zeros after zeros
longer : (done more all : ℕ) → done + more ≡ all → zeros done ++ zeros more ≡ zeros all
longer done more all whole = replicate-append-replicate done more 0 ∙ ap zeros whole

-- the zeros that are short of whole pieces, and those after them
first_piece : (part rest all : ℕ) → part ≤ 4096 → part + rest ≡ all → take part (zeros 4096) ++ zeros rest ≡ zeros all
first_piece part rest all few whole =
    ap (λ (piece : List ℕ). piece ++ zeros rest) (take-replicate part 4096 0 few) ∙ longer part rest all whole

some_there : {file : Option (List ℕ)} {bytes : List ℕ} → file ≡ Some bytes → IsSome file
some_there there = subst IsSome (sym there) refl

pub loop-piece-init : goal.loop-piece-init
loop-piece-init g c =
    let name = c.args.name.now in
    let part = c.args.count % 4096 in
    let sent = c.in_ok-append.ensures in
    let first : take part (zeros 4096) ≡ zeros (part + 4096 * 0) =
    take-replicate part 4096 0 (omega arith) ∙ ap zeros (omega arith) in
    record {
      added = said g.Self.Bench name first
          (at_once g.Self.Bench name _ c.args.self.now c.append.new.self _ (g.met.Self.Bench.only_now c.args.self.now)
          sent.appended sent.grown sent.crash sent.time sent.only_writes);
      there = λ honest. some_there (sent.appended honest).here.there;
    }

pub returns-in_err-append-clause-appends : goal.returns-in_err-append-clause-appends
returns-in_err-append-clause-appends g c =
    let name = c.args.name.now in
    let count = c.args.count in
    let part = count % 4096 in
    let rest = 4096 * (count / 4096) in
    let sent = c.in_err-append.ensures in
    said g.Self.Bench name (first_piece part rest count (omega arith) (omega arith))
    (stopped g.Self.Bench name _ (zeros rest) c.from_residual.result c.from_residual.ensures.1
    (at_once g.Self.Bench name _ c.args.self.now c.append.new.self _ (g.met.Self.Bench.only_now c.args.self.now)
    sent.appended sent.grown sent.crash sent.time sent.only_writes))

pub returns-in_err-append-2-clause-appends : goal.returns-in_err-append-2-clause-appends
returns-in_err-append-2-clause-appends g c =
    let name = c.args.name.now in
    let count = c.args.count in
    let done = count % 4096 + 4096 * c.loop-piece._piece in
    let rest = count - (done + 4096) in
    let sent = c.in_err-append-2.ensures in
    let whole : done + (4096 + rest) ≡ count = omega arith in
    let added = c.loop-piece.invariant.added in
    said g.Self.Bench name
    (ap (λ (pieces : List ℕ). zeros done ++ pieces) (longer 4096 rest (4096 + rest) refl)
    ∙ longer done (4096 + rest) count whole)
    (and_then g.Self.Bench name added
    (stopped g.Self.Bench name {a = zeros 4096} _ (zeros rest) c.from_residual-in_err-append-2.result c.from_residual-in_err-append-2.ensures.1
    (at_once g.Self.Bench name _ c.loop-piece.self c.append-in-loop-piece.new.self _
    (g.met.Self.Bench.only_now c.loop-piece.self) sent.appended sent.grown sent.crash sent.time sent.only_writes)))

pub loop-piece-preserved : goal.loop-piece-preserved
loop-piece-preserved g c =
    let name = c.args.name.now in
    let done = c.args.count % 4096 + 4096 * c.loop-piece._piece in
    let sent = c.in_ok-append-2.ensures in
    record {
      added = said g.Self.Bench name (longer done 4096 (c.args.count % 4096 + 4096 * (c.loop-piece._piece + 1)) (omega arith))
          (and_then g.Self.Bench name c.loop-piece.invariant.added
          (at_once g.Self.Bench name _ c.loop-piece.self c.append-in-loop-piece.new.self _
          (g.met.Self.Bench.only_now c.loop-piece.self) sent.appended sent.grown sent.crash sent.time sent.only_writes));
      there = c.loop-piece.invariant.there;
    }

pub returns-clause-appends : goal.returns-clause-appends
returns-clause-appends g c =
    let all : c.args.count % 4096 + 4096 * c.loop-piece._piece ≡ c.args.count = omega arith in
    said g.Self.Bench c.args.name.now (ap zeros all) c.loop-piece.invariant.added
