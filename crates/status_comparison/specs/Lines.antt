-- The lines of the list as private functions hold them; no public contract cites these. Assumes nothing.
use Rattle.std.specs.Prelude.{ℕ, List, [], ◌∷◌, ◌++◌}
use Rattle.status_comparison.specs.declared.line.Line.{Line}
use Rattle.status_comparison.specs.Inside.{form_of, line_of}

-- a line's text, which is empty where its values do not differ
abbrev pub line_text : Line → List ℕ
line_text l = line_of l.key.now (form_of l.form) l.predicted l.found

-- the lines, one behind the other
unfoldable pub lines_text : List Line → List ℕ
lines_text [] = []
lines_text (l ∷ ls) = line_text l ++ lines_text ls
