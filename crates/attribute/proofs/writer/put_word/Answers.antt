-- `attribute::writer::put_word` meets its contract. Assumes nothing.
use mathlib.Core.Path.{refl, ap, ◌∙◌}
use mathlib.Core.List.{List}
use Prim.Native.Nat.{ℕ, ◌+◌, ◌-◌}
use borrow.Rule.Slice.PartMut.{put_mid}
use Rattle.attribute.specs.Words.{word_bytes}
use Rattle.attribute.proofs.Stores.{le_word, part_set}
use Rattle.attribute.proofs.writer.put_word.Goals as goal

pub returns : goal.returns
unfolding word_bytes
returns c =
    let a = c.args in
    ap (λ (vs : List ℕ). put_mid a.at (a.at + 4 - a.at) a.buffer.now vs) (c.copy_from_slice.ensures.after ∙ c.to_le_bytes.ensures ∙ le_word a.value)
    ∙ part_set a.buffer.now (word_bytes a.value) a.at 4 refl c.requires
