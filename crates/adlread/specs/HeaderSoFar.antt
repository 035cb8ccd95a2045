-- Views of the header.
use Rattle.list_terms.specs.Text.{HeaderRead}
use Rattle.adlmodel.specs.Header.{header_view}
use Rattle.adlread.specs.declared.header.HeaderSoFar.{HeaderSoFar}

-- The header that a `HeaderSoFar` represents.
abbrev pub header_so_far : HeaderSoFar → HeaderRead
header_so_far header = record { lines = header_view header.lines; kept = header.kept; rates = header.rates }
