use Rattle.std.proofs.Common.{◌++◌, ◌∷◌, [], sym, take, IsTrue}
use Rattle.std.proofs.lemmas.List.{append-nil, take_all}
use Rattle.opening.specs.Further.{places_of, used_of}
use Rattle.opening.proofs.MoreTold.{counted_further, named_further, read_on, told_further, used_further}
use Rattle.opening.proofs.further.files.tell_files.Goals as goal
use Rattle.opening.proofs.further.files.tell_files.Goals.{in-Some+in_ok-push, in_default}

pub loop-source-preserved : goal.loop-source-preserved
loop-source-preserved g c =
    let used = c.args.used.now in
    let sources = c.args.sources.now in
    let files = g.S.Shelf.stored c.args.shelf.now in
    let source = c.source-item.result in
    let before = used_of used (take c.loop-source.source-index sources) in
    let here = used_of used (source ∷ []) in
    let one = c.in_ok-fault.ensures in
    let walked = c.loop-source.invariant in
    rw (used_further used sources c.loop-source.source-index source c.loop-source-test.true (sym c.source-item.is))
    (record {
      read = read_on g.S.Shelf walked.read one.only_read;
      reported = λ honest named knows.
          let honest_now : IsTrue (g.S.Shelf.honest c.loop-source.shelf) = rw walked.read.honest_same honest in
          let reported = one.reported honest_now (named ++ places_of before) (walked.noted named knows) in
          elim c.match-branch-2.branch [
            | in-Some+in_ok-push w ↦ rw (w.faults-is, w.in_ok-push.ensures.items)
                (told_further files named before here c.loop-source.faults.items _ (walked.reported honest named knows)
                (rw (w.in-Some.is, walked.read.same) at reported))
            | in_default w ↦ rw (w.faults-is, sym (append-nil c.loop-source.faults.items))
                (told_further files named before here c.loop-source.faults.items [] (walked.reported honest named knows)
                (rw (w.in_default.is, walked.read.same) at reported))
          ];
      counted = elim c.match-branch-2.branch [
        | in-Some+in_ok-push w ↦ rw (w.faults-is, w.in_ok-push.ensures.items)
            (counted_further c.loop-source.faults.items _ walked.read.later one.only_read.later walked.counted
            (rw w.in-Some.is at one.counted))
        | in_default w ↦ rw (w.faults-is, sym (append-nil c.loop-source.faults.items))
            (counted_further c.loop-source.faults.items [] walked.read.later one.only_read.later walked.counted
            (rw w.in_default.is at one.counted))
      ];
      noted = λ named knows.
          rw (← named_further named before here) (one.noted (named ++ places_of before) (walked.noted named knows));
    })

pub returns-clause-reported : goal.returns-clause-reported
returns-clause-reported g c = λ honest named knows.
    let all = take_all c.loop-source.source-index c.args.sources.now c.loop-source-test.false in
    rw all at (c.loop-source.invariant.reported honest named knows)
