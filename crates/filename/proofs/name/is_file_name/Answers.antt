use Rattle.std.proofs.Common.{◌≡◌, false, rules, tests}
use Rattle.std.proofs.lemmas.Iterator.{YieldsList-from_slice}
use Rattle.std.proofs.lemmas.Iterator.Search.{all_from_yields_List}
use Rattle.filename.specs.FileName.{is_dots, is_file_name_byte}
use Rattle.filename.proofs.name.is_file_name.Goals as goal

pub returns-then-not-is_dots : goal.returns-then-not-is_dots
returns-then-not-is_dots c =
    let name = c.args.name.now in
    let other : is_dots name ≡ false = cc in
    let all =
    all_from_yields_List {all = name} is_file_name_byte _ _ c.all.result c.all.ensures.ran
    (YieldsList-from_slice name cc) (λ x b q k. search (rules, tests)) in
    rw other all
