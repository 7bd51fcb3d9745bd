-- `line_reader::lines::pairs_at` meets its contract. Assumes nothing.
use Rattle.std.proofs.Common.{◌+◌, ◌-◌, take, Some, sym, refl, ap, add-one, arith, length-set, take-suc-set, rules, le-ltb, lt-ltb, ne_eqb}
use Rattle.line_reader.proofs.Pairs.{pairs_newline, pairs_full, pairs_no_digit, pairs_one, pairs_two, pairs_end, zeros_left}
use Rattle.line_reader.proofs.LineLaws.{position}
use Rattle.line_reader.proofs.lines.pairs_at.Goals as goal

pub loop-i-init : goal.loop-i-init
loop-i-init c = (refl, search rules, refl, refl)

pub returns-then-b-eq-NEWLINE : goal.returns-then-b-eq-NEWLINE
returns-then-b-eq-NEWLINE c =
    let l = c.loop-i in
    let t = c.args.text.now in
    let table = c.args.table.now in
    let h = c.loop-i-test.true in
    let bs = take l.n l.bytes in
    rw (l.invariant.0, pairs_newline table l.i t h (24 - l.n) bs c.if-b-eq-NEWLINE.true)
    (ap (λ i. Some (bs, i)) (sym (position t (l.i + 1) (omega arith))))

pub returns-then-n-eq-MOST_ATTRIBUTE : goal.returns-then-n-eq-MOST_ATTRIBUTE
returns-then-n-eq-MOST_ATTRIBUTE c =
    let l = c.loop-i in
    let t = c.args.text.now in
    let table = c.args.table.now in
    let h = c.loop-i-test.true in
    let bs = take l.n l.bytes in
    rw (l.invariant.0, pairs_full table l.i t h (24 - l.n) bs (omega (arith, c.if-n-eq-MOST_ATTRIBUTE.true)) (ne_eqb _ _ c.if-b-eq-NEWLINE.false))

pub returns-then-high-ge16 : goal.returns-then-high-ge16
returns-then-high-ge16 c =
    let l = c.loop-i in
    let t = c.args.text.now in
    let table = c.args.table.now in
    let h = c.loop-i-test.true in
    let bs = take l.n l.bytes in
    rw (l.invariant.0, pairs_no_digit table l.i t h (24 - l.n) (24 - (l.n + 1)) bs (omega arith) (ne_eqb _ _ c.if-b-eq-NEWLINE.false) (rw (← c.hex_digit-high.ensures) (le-ltb _ _ c.if-high-ge16.true)))

pub returns-then-text-j : goal.returns-then-text-j
returns-then-text-j c =
    let l = c.loop-i in
    let t = c.args.text.now in
    let table = c.args.table.now in
    let h = c.loop-i-test.true in
    let bs = take l.n l.bytes in
    rw (l.invariant.0, pairs_one table l.i t h (24 - l.n) (24 - (l.n + 1)) bs (omega arith) c.if-text-j.true (ne_eqb _ _ c.if-b-eq-NEWLINE.false))

pub returns-then-low-ge16 : goal.returns-then-low-ge16
returns-then-low-ge16 c =
    let l = c.loop-i in
    let t = c.args.text.now in
    let table = c.args.table.now in
    let h = c.loop-i-test.true in
    let bs = take l.n l.bytes in
    rw (
      l.invariant.0,
      pairs_two table l.i t h (24 - l.n) (24 - (l.n + 1)) (l.i + 1) bs (omega arith) refl c.if-text-j.false (ne_eqb _ _ c.if-b-eq-NEWLINE.false),
      ← c.hex_digit-high.ensures,
      ← c.hex_digit-low.ensures,
      lt-ltb _ _ c.if-high-ge16.false,
      le-ltb _ _ c.if-low-ge16.true,
    )

pub loop-i-preserved : goal.loop-i-preserved
loop-i-preserved c =
    let l = c.loop-i in
    let t = c.args.text.now in
    let table = c.args.table.now in
    let h = c.loop-i-test.true in
    let bs = take l.n l.bytes in (
      rw (
        l.invariant.0,
        pairs_two table l.i t h (24 - l.n) (24 - (l.n + 1)) (l.i + 1) bs (omega arith) refl c.if-text-j.false (ne_eqb _ _ c.if-b-eq-NEWLINE.false),
        ← c.hex_digit-high.ensures,
        ← c.hex_digit-low.ensures,
        lt-ltb _ _ c.if-high-ge16.false,
        lt-ltb _ _ c.if-low-ge16.false,
      )
          (rw (add-one l.n, take-suc-set l.bytes l.n _ (omega (arith, l.invariant.2, l.invariant.1, c.if-n-eq-MOST_ATTRIBUTE.false)))),
      omega arith,
      simp length-set l.invariant.2,
      zeros_left l.bytes l.n (24 - l.n) (24 - (l.n + 1)) _ (omega (arith, l.invariant.1, c.if-n-eq-MOST_ATTRIBUTE.false)) l.invariant.3,
    )

pub returns : goal.returns
returns c =
    let l = c.loop-i in
    rw (l.invariant.0, pairs_end c.args.table.now l.i c.args.text.now c.loop-i-test.false (24 - l.n) (take l.n l.bytes))
