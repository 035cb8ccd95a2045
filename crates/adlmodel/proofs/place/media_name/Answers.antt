use Rattle.std.proofs.Common.{◌≡◌, Bool, true, false, Option, Result, Ok, Err, IsOk, IfNone}
use Rattle.std.specs.Prelude.{◌&&◌}
use Rattle.std.specs.Result.{result_ok}
use Rattle.std.specs.Str.{is_utf8}
use Rattle.std.proofs.lemmas.Str.{IsUtf8-from_is_utf8}
use Rattle.list_terms.specs.Names.{is_media_name}
use Rattle.adlmodel.proofs.place.media_name.Goals as goal

there : {S E : Type 0} (r : Result S E) (o : Option S) (P : Type 0) → o ≡ result_ok r → IsOk r → IfNone o P
there (Ok s) o P e h = rw e tt
there (Err s) o P e h = absurd (cc)

first : (a b : Bool) → (a && b) ≡ true → a ≡ true
first true b h = cc
first false b h = h

pub returns-then-is_media_name-clause-none : goal.returns-then-is_media_name-clause-none
returns-then-is_media_name-clause-none c =
    let name = c.args.name.items in
    let is : is_media_name name ≡ true = cc in
    there c.from_utf8.result c.ok.result _ c.ok.ensures.value
    (c.from_utf8.ensures.succeeds (IsUtf8-from_is_utf8 name (first (is_utf8 name) _ is)))
