-- `status_reader::lines::ids_line` meets its contract. Assumes nothing.
use mathlib.Core.Path.{ap, ◌∙◌}
use mathlib.Core.List.{List, [], ◌∷◌}
use Prim.Native.Nat.{ℕ}
use Rattle.std.specs.Prelude.{Some, None}
use Rattle.format.specs.Line.{mapped}
use Rattle.status.specs.Lines.{id_form}
use Rattle.status_reader.proofs.LineLaws.{last_value}
use Rattle.status_reader.proofs.lines.ids_line.Goals as goal

pub returns-in_err-filesystem : goal.returns-in_err-filesystem
returns-in_err-filesystem c =
    let e0 = c.in_ok-values.ensures id_form (id_form ∷ id_form ∷ id_form ∷ []) in
    let e1 = c.in_ok-real.ensures id_form (id_form ∷ id_form ∷ []) in
    let e2 = c.in_ok-effective.ensures id_form (id_form ∷ []) in
    let e3 = c.in_ok-saved.ensures id_form [] in
    let e4 = last_value id_form c.in_ok-saved.values.now None c.in_err-filesystem.ensures in
    rw c.from_residual-in_err-filesystem.ensures
    (ap (mapped (λ (vs : List ℕ). c.in_ok-real.real ∷ vs)) (ap (mapped (λ (vs : List ℕ). c.in_ok-effective.effective ∷ vs)) (ap (mapped (λ (vs : List ℕ). c.in_ok-saved.saved ∷ vs)) e4 ∙ e3) ∙ e2)
    ∙ e1
    ∙ e0)

pub returns : goal.returns
returns c =
    let e0 = c.in_ok-values.ensures id_form (id_form ∷ id_form ∷ id_form ∷ []) in
    let e1 = c.in_ok-real.ensures id_form (id_form ∷ id_form ∷ []) in
    let e2 = c.in_ok-effective.ensures id_form (id_form ∷ []) in
    let e3 = c.in_ok-saved.ensures id_form [] in
    let e4 = last_value id_form c.in_ok-saved.values.now (Some c.in_ok-filesystem.filesystem) c.in_ok-filesystem.ensures in
    ap (mapped (λ (vs : List ℕ). c.in_ok-real.real ∷ vs)) (ap (mapped (λ (vs : List ℕ). c.in_ok-effective.effective ∷ vs)) (ap (mapped (λ (vs : List ℕ). c.in_ok-saved.saved ∷ vs)) e4 ∙ e3) ∙ e2)
    ∙ e1
    ∙ e0
