-- `names_writer::clause::write_clause` meets its contract. Assumes nothing.
use mathlib.Core.Path.{◌≡◌, sym, ap, ◌∙◌}
use mathlib.Core.List.{◌++◌}
use lib.ListN.{length}
use native.Mathlib.Omega.{arith}
use lib.Dec.{eqb}
use Rattle.format.specs.Line.{bytes}
use Rattle.names.specs.Writing.{flags_text, has_flag}
use Rattle.names.specs.Inside.{separator}
use Rattle.names_writer.specs.Inside.{flags_put, Put}
use Rattle.names_writer.proofs.Texts.{clause_lengths, flags_split, put_then, put_bytes, parted}
use Rattle.names_writer.proofs.clause.write_clause.Goals as goal

pub write-requires : goal.write-requires
write-requires c =
    let a = c.args in
    let x = c.write_if-p in
    let y = c.write_bytes-q in
    let z = c.write_bytes-r in
    let any : c.any.result ≡ has_flag a.held a.number = rw c.of-flags.ensures at c.any.ensures in
    let l = clause_lengths a.held (eqb a.at 0) a.number a.name.now (sym any ∙ c.if-any.true) in
    let n : length (flags_put c.of-flags.result) ≡ length (flags_text a.held a.number) = ap (λ f. length (flags_put f)) c.of-flags.ensures ∙ ap length (sym (flags_split a.held a.number)) in
    let f : Put a.buf.now a.at (separator (eqb a.at 0)) x.new.buf x.result = rw parted at x.ensures in
    let g : Put x.new.buf x.result a.name.now y.new.buf y.result = put_bytes x.new.buf y.new.buf x.result y.result a.name.now (omega (arith, c.requires, l, f.0, x.auto.buf)) y.ensures.0 y.ensures.1 in
    let h : Put y.new.buf y.result (bytes "=") z.new.buf z.result = put_bytes y.new.buf z.new.buf y.result z.result (bytes "=") (omega (arith, c.requires, l, f.0, g.0, x.auto.buf, y.auto.buf)) z.ensures.0 z.ensures.1 in
    omega (arith, c.requires, l, n, f.0, g.0, h.0, x.auto.buf, y.auto.buf, z.auto.buf)

pub returns-then-any : goal.returns-then-any
returns-then-any c =
    let a = c.args in
    let x = c.write_if-p in
    let y = c.write_bytes-q in
    let z = c.write_bytes-r in
    let w = c.write in
    let any : c.any.result ≡ has_flag a.held a.number = rw c.of-flags.ensures at c.any.ensures in
    let has = sym any ∙ c.if-any.true in
    let l = clause_lengths a.held (eqb a.at 0) a.number a.name.now has in
    let f : Put a.buf.now a.at (separator (eqb a.at 0)) x.new.buf x.result = rw parted at x.ensures in
    let g : Put x.new.buf x.result a.name.now y.new.buf y.result = put_bytes x.new.buf y.new.buf x.result y.result a.name.now (omega (arith, c.requires, l, f.0, x.auto.buf)) y.ensures.0 y.ensures.1 in
    let h : Put y.new.buf y.result (bytes "=") z.new.buf z.result = put_bytes y.new.buf z.new.buf y.result z.result (bytes "=") (omega (arith, c.requires, l, f.0, g.0, x.auto.buf, y.auto.buf)) z.ensures.0 z.ensures.1 in
    let flags = flags_text a.held a.number in
    let text : flags_put c.of-flags.result ≡ flags = ap flags_put c.of-flags.ensures ∙ sym (flags_split a.held a.number) in
    let k : Put z.new.buf z.result flags w.new.buf w.result = rw text at w.ensures in
    rw has
    (put_then a.buf.now x.new.buf w.new.buf a.at x.result w.result (separator (eqb a.at 0)) (a.name.now ++ (bytes "=" ++ flags)) f
    (put_then x.new.buf y.new.buf w.new.buf x.result y.result w.result a.name.now (bytes "=" ++ flags) g
    (put_then y.new.buf z.new.buf w.new.buf y.result z.result w.result (bytes "=") flags h k)))
