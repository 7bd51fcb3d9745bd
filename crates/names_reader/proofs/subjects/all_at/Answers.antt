-- `names_reader::subjects::all_at` meets its contract. Assumes nothing.
use mathlib.Core.Path.{◌≡◌, sym, ap, ◌∙◌}
use mathlib.Core.List.{[], ◌∷◌}
use mathlib.Core.Bool.{true, false}
use Prim.Native.Nat.{ℕ, ◌+◌}
use native.Mathlib.Nat.{add-zero}
use native.Mathlib.Omega.{arith}
use lib.ListN.{drop, get_or}
use Rattle.std.specs.Prelude.{Err}
use Rattle.capabilities.specs.Sets.{full}
use Rattle.format.specs.Line.{bytes}
use Rattle.names.specs.declared.ReadError.TheVariants.{Malformed}
use Rattle.names.specs.Grammar.{spelt}
use Rattle.names.specs.Reading.{word, operated}
use Rattle.names_reader.specs.Inside.{common}
use Rattle.names_reader.proofs.Common.{rest}
use Rattle.names_reader.proofs.Steps.{read_same, read_stuck, read_end, done_operator, alone_stuck}
use Rattle.names_reader.proofs.Found.{all_cut, all_whole}
use Rattle.names_reader.proofs.subjects.all_at.Goals as goal
use Rattle.names_reader.proofs.subjects.all_at.Goals.{else-n-eq3-via-then-n-eq3+then-p-text+else-is_operator, else-n-eq3-via-then-n-eq3+else-p-text, else-n-eq3-via-else-n-eq3}

pub returns-then-is_operator : goal.returns-then-is_operator
returns-then-is_operator c =
    let a = c.args in
    let t = a.text.now in
    let k = c.common-n.result in
    let e : k ≡ common (bytes "all") (drop a.at t) = rw (rest a.at t) at c.common-n.ensures.0 in
    let h = c.if-p-text.true in (
      λ s. sym (all_whole t a.at k e c.if-n-eq3.true s
          ∙ read_same t (a.at + k) (word (spelt [] full false ∷ []) 0 s) (operated true true full s) h
          (done_operator 0 full false s (get_or t (a.at + k) 0) (sym c.is_operator.ensures ∙ c.if-is_operator.true))),
      (omega arith, h),
    )

pub returns : goal.returns
returns c =
    let a = c.args in
    let t = a.text.now in
    let k = c.common-n.result in
    let e : k ≡ common (bytes "all") (drop a.at t) = rw (rest a.at t) at c.common-n.ensures.0 in
    elim c.else-n-eq3.branch [
      | else-n-eq3-via-then-n-eq3+then-p-text+else-is_operator w ↦ (
        λ s. sym (all_whole t a.at k e w.if-n-eq3.true s
            ∙ read_stuck t (a.at + k) (word (spelt [] full false ∷ []) 0 s) w.if-p-text.true
            (alone_stuck 0 full false s (get_or t (a.at + k) 0) (sym w.is_operator.ensures ∙ w.if-is_operator.false))),
        tt,
      )
      | else-n-eq3-via-then-n-eq3+else-p-text w ↦ (
        λ s. sym (all_whole t a.at k e w.if-n-eq3.true s
            ∙ read_end t (a.at + k) (word (spelt [] full false ∷ []) 0 s) (let h = w.if-p-text.false in omega arith) ∙ ap (λ (n : ℕ). Err (Malformed n)) (add-zero (a.at + k))),
        tt,
      )
      | else-n-eq3-via-else-n-eq3 w ↦ (λ s. sym (all_cut t a.at k e w.if-n-eq3.false s), tt)
    ]
