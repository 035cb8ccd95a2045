use Rattle.std.proofs.Common.{◌≡◌, ◌+◌, ◌%◌, ◌++◌, [], ℕ, IsTrue, Some, List, OnOk, ap, refl, replicate, subst, ◌∙◌}
use Rattle.sound_terms.specs.Waves.{header_of}
use Rattle.devices.specs.AppendLaws.{added_to}
use Rattle.mediacopy.proofs.Zeros.{appended_to, laid}
use Rattle.mediacopy.proofs.layout.lay_out_in.Goals as goal

pub returns-clause-laid : goal.returns-clause-laid
returns-clause-laid g c = λ honest.
    let created_honest : IsTrue (g.B.Bench.honest c.create.new.self) =
    rw c.create.ensures.only_writes.honest_same honest in
    let headed_honest : IsTrue (g.B.Bench.honest c.append.new.self) =
    rw c.append.ensures.only_writes.honest_same created_honest in
    let created = (c.in_ok-create.ensures.created honest).here in
    let head = header_of c.args.info.now in
    let headed : g.B.Bench.stored c.append.new.self c.args.name.now ≡ Some head =
    appended_to _ _ [] _ head (c.in_ok-append.ensures.appended created_honest).here created c.put_header.ensures in
    subst (λ (bytes : List ℕ). OnOk c.append_zeros.result
    (g.B.Bench.stored c.append_zeros.new.self c.args.name.now ≡ Some bytes))
    (ap (λ (n : ℕ). head ++ replicate (n + n % 2) 0) c.data_length-size.ensures.value ∙ laid c.args.info.now head refl)
    (added_to c.append_zeros.result _ _ head _ headed (c.append_zeros.ensures.appends.appended headed_honest))
