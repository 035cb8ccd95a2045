-- Views of outlines.
use Rattle.list_terms.specs.Text as text
use Rattle.adlread.specs.declared.outline.Outline.{Outline}

-- The outline that a Rattle value represents.
abbrev pub outline_of : Outline → text.Outline
outline_of outline = record { stage = outline.stage; name = outline.name.now; opened = outline.opened }
