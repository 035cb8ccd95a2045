-- Common parts of reports, as JSON values (RFC 8259).
use Rattle.std.specs.Prelude.{ℕ, nat_le, if◌then◌else◌, codes}
use Rattle.serde_json.specs.Data.{Data, number, unsigned, object, member, no_members}
use Rattle.list_terms.specs.declared.Notice.{Notice}

-- version of the report format
abbrev pub form : ℕ
form = 6

-- a natural number as a JSON value
abbrev pub count : ℕ → Data
count n = number (unsigned n)

-- a notice, which is about a line of the list or about an index
abbrev pub notice_data : Notice → Data
notice_data notice =
    if nat_le notice.kind 2
    then object (member (codes "line") (count notice.at) (member (codes "notice") (count notice.kind) no_members))
    else object (member (codes "index") (count notice.at) (member (codes "notice") (count notice.kind) no_members))
