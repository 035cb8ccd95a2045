use Rattle.std.proofs.Common.{◌≡◌, ◌∙◌, ◌++◌, ◌%◌, [], ℕ, ap, arith, subst}
use Rattle.sha2.specs.Hashers.{Holds256}
use Rattle.sha2.specs.Sha256.{sha256}
use Rattle.sound_terms.specs.Media.{frames_in, medium_info}
use Rattle.sound_terms.specs.Waves.{data_size, header_of, zeros}
use Rattle.mediacopy.specs.Pieces.{content}
use Rattle.digests.proofs.InTurn.{pad_is, whole_file}
use Rattle.digests.proofs.digests.digest_of.Goals as goal

pub returns-clause-digest : goal.returns-clause-digest
returns-clause-digest g c = λ honest.
    let sound = c.args.kept.now.sound.now in
    let info = medium_info sound c.args.kept.now.base c.args.kept.now.run in
    let samples = frames_in sound (content (g.S.Shelf.stored c.args.shelf.now) sound.name) c.args.kept.now.run.first
    c.args.kept.now.run.length in
    let headed : Holds256 c.update.new.self (header_of info) =
    subst (Holds256 c.update.new.self) (c.put_header.ensures ∙ ap header_of c.info_of-info.ensures)
    (c.update.ensures [] c.new-hasher.ensures) in
    let hashed = c.in_ok-hash_run.ensures.hashed honest (header_of info) headed in
    let size : c.data_length.result ≡ data_size info =
    c.data_length.ensures.value ∙ ap data_size c.info_of-info.ensures in
    let pad = pad_is (c.data_length.result % 2) (omega arith) ∙ ap (λ (n : ℕ). zeros (n % 2)) size in
    c.finalize.ensures _ (c.update-2.ensures (header_of info ++ samples) hashed.held)
    ∙ ap sha256 (whole_file info samples _ (data_size info) hashed.whole pad)
