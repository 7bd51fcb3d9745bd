-- A text that begins with a step: written and read, each from the other. Assumes nothing.
use mathlib.Core.Path.{◌≡◌, refl, sym, ap, ◌∙◌, subst}
use mathlib.Core.List.{List, [], ◌∷◌, ◌++◌, append_assoc}
use Prim.Native.Nat.{ℕ, ◌^◌, ◌<◌, ◌≤◌}
use native.Mathlib.Omega.{arith}
use lib.ListN.{length, get_or}
use Rattle.rules.specs.Run.{Step}
use Rattle.attribute.specs.Words.{Bytes}
use Rattle.format.specs.Line.{lines_text, read, fault, mapped, read_lines, after_key}
use Rattle.format.specs.Step.{step_kinds, attribute_key, attribute_text, step_text, read_attribute, step_of, read_step}
use Rattle.format.specs.RoundTrip.{Writable}
use Rattle.format.proofs.Reading.{next_told, mapped_told}
use Rattle.format.proofs.Fitting.{FitAll, placed, placed_same}
use Rattle.format.proofs.WrittenRead.{lines_read}
use Rattle.format.proofs.ReadWritten.{lines_written}
use Rattle.format.proofs.Pairs.{attribute_read, attribute_written}

-- ---- one step

-- the values of its first four lines
abbrev step_values : Step → List ℕ
step_values s = s.number ∷ s.a ∷ s.b ∷ s.c ∷ []

-- the values of what a step can hold fit its lines
pub values_fit : (s : Step) → Writable s → FitAll step_kinds (step_values s)
unfolding FitAll step_kinds
values_fit s w = omega (arith, w.number, w.a, w.b, w.c)

values_written : (vs bs : List ℕ) → FitAll step_kinds vs → Bytes bs → length bs ≤ 24 → (vs ≡ step_values (step_of vs bs)) × Writable (step_of vs bs)
unfolding placed FitAll step_kinds
values_written vs bs h small size =
    let e : vs ≡ placed step_kinds (λ i. get_or vs i 0) = placed_same step_kinds vs h in
    let fit : FitAll step_kinds (placed step_kinds (λ i. get_or vs i 0)) = subst (FitAll step_kinds) e h in
    let numbers : (get_or vs 0 0 ≤ 99) × (get_or vs 1 0 < 2 ^ 64) × (get_or vs 2 0 < 2 ^ 64) × (get_or vs 3 0 < 2 ^ 64) = omega (arith, fit) in
    (e, record { number = numbers.0; a = numbers.1; b = numbers.2; c = numbers.3; size = size; bytes = small })

-- a written step
pub step_read : (s : Step) (rest : List ℕ) → Writable s → read_step (step_text s ++ rest) ≡ read s rest
unfolding read_step step_text
step_read s rest w =
    rw (
      append_assoc (lines_text step_kinds (step_values s)) (attribute_text s.attribute) rest,
      lines_read step_kinds (step_values s) (attribute_text s.attribute ++ rest) (values_fit s w),
      attribute_read attribute_key s.attribute rest w.bytes w.size,
    )

-- a step that is read
pub step_written : (text : List ℕ) (s : Step) (rest : List ℕ) → read_step text ≡ read s rest → (text ≡ step_text s ++ rest) × Writable s
unfolding read_step step_text
step_written text s rest e =
    let n = next_told s rest _ (read_lines step_kinds text) (λ vs t. mapped (step_of vs) (read_attribute attribute_key t)) e in
    let m = mapped_told s rest (step_of n.0) (read_attribute attribute_key n.1) n.3 in
    let l = lines_written step_kinds n.0 text n.1 n.2 in
    let a = attribute_written attribute_key m.0 n.1 rest m.1 in
    let v = values_written n.0 m.0 l.1 a.1 a.2 in
    let whole =
    l.0
    ∙ ap (λ (t : List ℕ). lines_text step_kinds n.0 ++ t) a.0
    ∙ ap (λ (vs : List ℕ). lines_text step_kinds vs ++ (attribute_text m.0 ++ rest)) v.0
    ∙ sym (append_assoc (lines_text step_kinds (step_values (step_of n.0 m.0))) (attribute_text m.0) rest) in
    rw (← m.2) (whole, v.1)

-- no text is no step
pub no_step : read_step [] ≡ fault
unfolding read_step read_lines step_kinds after_key
no_step = refl
