use Rattle.std.proofs.Common.{option_map, string_bytes}
use Rattle.checkreport.proofs.Arrays.{refused_printed}
use Rattle.checkreport.proofs.printed.put_sources.Goals as goal

pub returns-clause-printed : goal.returns-clause-printed
returns-clause-printed g c =
    let more = c.put_further-are_all.ensures in
    refused_printed g.O.Console c.args.first.now _ c.in_ok-put_first.ensures.printed.0 more.0
    (option_map string_bytes c.media_error-media_error.result) c.put_further-are_all.result
    (more.1, more.2) c.in_ok-put_first.ensures.printed.1 more.3 c.put_end.ensures
