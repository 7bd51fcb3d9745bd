-- `attribute::writer::put_words` meets its contract. Assumes nothing.
use Prim.Native.Nat.{ℕ, ◌/◌, ◌%◌}
use mathlib.Core.Path.{ap, ◌∙◌}
use lib.Seq.{sets}
use Rattle.attribute.specs.Words.{word_bytes}
use Rattle.attribute.specs.Writer.{first_word, version2_bytes}
use Rattle.attribute.proofs.Stores.{five_words}
use Rattle.attribute.proofs.writer.put_words.Goals as goal

pub returns : goal.returns
unfolding version2_bytes
returns c =
    let a = c.args in
    five_words a.buffer.now (first_word a.effective) (a.permitted % 0x100000000) (a.inheritable % 0x100000000) (a.permitted / 0x100000000)
    (a.inheritable / 0x100000000)
    (c.put_word.ensures ∙ ap (λ (w : ℕ). sets a.buffer.now 0 (word_bytes w)) c.first_word.ensures)
    c.put_word-2.ensures c.put_word-3.ensures c.put_word-4.ensures c.put_word-5.ensures
