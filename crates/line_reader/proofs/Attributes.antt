-- What an attribute's line at a place comes to, for the callers. Assumes nothing.
use Rattle.std.proofs.Common.{◌≡◌, ℕ, ◌+◌, ◌^◌, ◌<◌, List, [], drop, sym, ap, ◌∙◌}
use Rattle.format.specs.Line.{keyed_text, Read, below}
use Rattle.format.specs.Step.{pairs_text, read_pairs, read_attribute}
use Rattle.format.proofs.Pairs.{attribute_written}
use Rattle.format.proofs.Alike.{pairs_in_line, key_in_line}
use Rattle.hex_tables.specs.Tables.{reading_table}
use Rattle.hex_tables.proofs.Format.{by_the_tables}
use Rattle.line_reader.specs.declared.Place.{Place}
use Rattle.line_reader.specs.Inside.{seen}
use Rattle.line_reader.specs.Positions.{keyed_at, attribute_by}
use Rattle.line_reader.proofs.Answers.{rest_at, some_line, seen_line}

module _ (key text : List ℕ) (p : Place) where
  bytes_seen : p.lines + 1 < 2 ^ 32 → below p.lines (read_attribute key (drop p.at text)) ≡ seen text (keyed_at key (read_pairs 24 []) text p)
  unfolding keyed_at
  bytes_seen b =
      seen_line text p (read_attribute key (drop p.at text)) (key_in_line key (read_pairs 24 []) (drop p.at text) (pairs_in_line 24 []))
      (λ bs rest e. rest_at text (keyed_text key (pairs_text bs)) rest p.at (attribute_written key bs (drop p.at text) rest e).0 (some_line key (pairs_text bs)))
      b

  -- with the table for reading: what the format reads there
  pub attribute_seen : p.lines + 1 < 2 ^ 32 → below p.lines (read_attribute key (drop p.at text)) ≡ seen text (attribute_by reading_table key text p)
  attribute_seen b =
      bytes_seen b ∙ sym (ap (λ (pairs : List ℕ → Read (List ℕ)). seen text (keyed_at key pairs text p)) (λ i u. by_the_tables.pairs_read 24 [] u i))
