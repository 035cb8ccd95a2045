use Rattle.std.proofs.Common.{option_map, string_bytes}
use Rattle.checkreport.specs.Parts.{beside_text}
use Rattle.console.specs.PrintingLaws.{prints_more}
use Rattle.checkreport.proofs.accepted.put_beside.Goals as goal

pub returns : goal.returns
unfolding beside_text
returns g c =
    let C = g.O.Console.contents in
    let F = g.O.Console.failures in
    let passed = c.put_all_passed.ensures in (
      record {
        media_error = option_map string_bytes c.media_error-media_error.result;
        room = c.room-room.result;
        passed = passed.0;
      },
      prints_more C F c.put.ensures
          (prints_more C F c.put_text.ensures
          (prints_more C F c.put-2.ensures
          (prints_more C F c.put_room.ensures (prints_more C F c.put-3.ensures passed.1)))),
    )
