use Rattle.std.proofs.Common.{option_map, string_bytes}
use Rattle.checkreport.proofs.Arrays.{refused_printed}
use Rattle.checkreport.proofs.printed.put_lines.Goals as goal

pub returns-clause-printed : goal.returns-clause-printed
returns-clause-printed g c =
    let left = c.in_ok-faults.ensures.further in
    let more = c.put_of_text-are_all.ensures in
    refused_printed g.O.Console c.args.first.now _ c.in_ok-put_first.ensures.printed.0 more.0
    (option_map string_bytes c.media_error-media_error.result) c.put_of_text-are_all.result
    (left.0, left.1, left.2, more.1 left.0 left.1 left.3) c.in_ok-put_first.ensures.printed.1 more.2 c.put_end.ensures
