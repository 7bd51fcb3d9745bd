-- `attribute::writer::write` meets its contract. Assumes nothing.
use mathlib.Core.Path.{sym, ◌∙◌}
use lib.ListN.{length}
use Rattle.attribute.specs.declared.WriteError.TheVariants.{OutOfRange, NoRoom}
use Rattle.attribute.proofs.Outcomes.{out_of_range, no_room, is_done, refused_buffer, done_buffer}
use Rattle.attribute.proofs.Stores.{stored_in_front}
use Rattle.attribute.proofs.writer.write.Goals as goal

pub returns-then-has_bits_above_40 : goal.returns-then-has_bits_above_40
returns-then-has_bits_above_40 c =
    let a = c.args in
    let answer = out_of_range a.permitted a.inheritable (length a.buffer.now) (sym c.has_bits_above_40.ensures ∙ c.if-has_bits_above_40.true) in
    (sym answer, sym (refused_buffer a.permitted a.inheritable a.effective a.buffer.now OutOfRange answer))

pub returns-then-buffer-lt-XATTR_CAPS_SZ_2 : goal.returns-then-buffer-lt-XATTR_CAPS_SZ_2
returns-then-buffer-lt-XATTR_CAPS_SZ_2 c =
    let a = c.args in
    let answer =
    no_room a.permitted a.inheritable (length a.buffer.now) (sym c.has_bits_above_40.ensures ∙ c.if-has_bits_above_40.false) c.if-buffer-lt-XATTR_CAPS_SZ_2.true in
    (sym answer, sym (refused_buffer a.permitted a.inheritable a.effective a.buffer.now NoRoom answer))

pub returns : goal.returns
returns c =
    let a = c.args in
    let answer =
    is_done a.permitted a.inheritable (length a.buffer.now) (sym c.has_bits_above_40.ensures ∙ c.if-has_bits_above_40.false) c.if-buffer-lt-XATTR_CAPS_SZ_2.false in (
      sym answer,
      c.put_words.ensures ∙ stored_in_front a.buffer.now a.permitted a.inheritable a.effective c.if-buffer-lt-XATTR_CAPS_SZ_2.false
          ∙ sym (done_buffer a.permitted a.inheritable a.effective a.buffer.now answer),
    )
