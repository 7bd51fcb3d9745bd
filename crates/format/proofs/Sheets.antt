-- A text that begins with a sheet: written and read, each from the other. Assumes nothing.
use mathlib.Core.Path.{◌≡◌, refl, ap, ◌∙◌, subst}
use mathlib.Core.List.{List, [], ◌∷◌, ◌++◌}
use mathlib.Core.Bool.{Bool, true, false}
use Prim.Native.Nat.{ℕ, zero, suc, ◌≤◌}
use native.Mathlib.Omega.{arith}
use lib.Dec.{eqb}
use lib.ListN.{get_or}
use Rattle.capabilities.proofs.Inclusion.{sub_le}
use Rattle.credentials.specs.Validity.{valid}
use Rattle.credentials.specs.declared.Credentials.{Credentials}
use Rattle.credentials.proofs.Valid.{valid_facts}
use Rattle.rules.specs.Fields.{number}
use Rattle.format.specs.Line.{lines_text, read, mapped, read_lines}
use Rattle.format.specs.Sheet.{id_kinds, uid_kinds, gid_kinds, set_kinds, flag_kinds, sheet_kinds, sheet_values, sheet_text, credentials_of, read_front}
use Rattle.format.specs.RoundTrip.{WritableSheet}
use Rattle.format.proofs.Reading.{mapped_told}
use Rattle.format.proofs.Fitting.{FitAll, placed, placed_same}
use Rattle.format.proofs.WrittenRead.{lines_read}
use Rattle.format.proofs.ReadWritten.{lines_written}

-- ---- a flag and its number

pub flag_read : (b : Bool) → eqb (number b) 1 ≡ b
unfolding number
flag_read true = refl
flag_read false = refl

pub flag_written : (v : ℕ) → v ≤ 1 → v ≡ number (eqb v 1)
unfolding number
flag_written zero h = refl
flag_written (suc zero) h = refl
flag_written (suc (suc v)) h = absurd (omega arith)

pub flag_small : (b : Bool) → number b ≤ 1
unfolding number
flag_small true = omega arith
flag_small false = omega arith

-- ---- credentials and their values

values_read : (c : Credentials) → credentials_of (sheet_values c) ≡ c
values_read c = λ i. record { uids = c.uids; gids = c.gids; sets = c.sets; securebits = c.securebits; nnp = flag_read c.nnp i }

-- the values of what a sheet can hold fit its lines
pub values_fit : (c : Credentials) → WritableSheet c → FitAll sheet_kinds (sheet_values c)
unfolding FitAll id_kinds uid_kinds gid_kinds set_kinds flag_kinds sheet_kinds
values_fit c w = omega (arith, w.uids, w.gids, w, flag_small c.nnp)

values_written : (vs : List ℕ) → FitAll sheet_kinds vs → (vs ≡ sheet_values (credentials_of vs)) × WritableSheet (credentials_of vs)
unfolding placed FitAll id_kinds uid_kinds gid_kinds set_kinds flag_kinds sheet_kinds
values_written vs h =
    let at : ℕ → ℕ = λ i. get_or vs i 0 in
    let e : vs ≡ placed sheet_kinds at = placed_same sheet_kinds vs h in
    let fit : FitAll sheet_kinds (placed sheet_kinds at) = subst (FitAll sheet_kinds) e h in
    let flag : at 14 ≡ number (eqb (at 14) 1) = flag_written (at 14) (omega (arith, fit)) in
    (e ∙ ap (λ (x : ℕ). at 0 ∷ at 1 ∷ at 2 ∷ at 3 ∷ at 4 ∷ at 5 ∷ at 6 ∷ at 7 ∷ at 8 ∷ at 9 ∷ at 10 ∷ at 11 ∷ at 12 ∷ at 13 ∷ x ∷ []) flag, omega (arith, fit))

-- ---- the sheet

-- a written sheet
pub front_read : (c : Credentials) (t : List ℕ) → WritableSheet c → read_front (sheet_text c ++ t) ≡ read c t
unfolding read_front sheet_text
front_read c t w =
    ap (mapped credentials_of) (lines_read sheet_kinds (sheet_values c) t (values_fit c w)) ∙ ap (λ (d : Credentials). read d t) (values_read c)

-- a sheet that is read
pub front_written : (c : Credentials) (t rest : List ℕ) → read_front t ≡ read c rest → (t ≡ sheet_text c ++ rest) × WritableSheet c
unfolding read_front sheet_text
front_written c t rest e =
    let m = mapped_told c rest credentials_of (read_lines sheet_kinds t) e in
    let l = lines_written sheet_kinds m.0 t rest m.1 in
    let v = values_written m.0 l.1 in
    rw (← m.2) (l.0 ∙ ap (λ (vs : List ℕ). lines_text sheet_kinds vs ++ rest) v.0, v.1)

-- valid credentials can be written
pub valid_writable : (c : Credentials) → valid c ≡ true → WritableSheet c
valid_writable c h =
    let v = valid_facts c h in
    let s = v.sets in
    omega (
      arith,
      v.uids,
      v.gids,
      v.securebits_small,
      sub_le s.permitted_full,
      sub_le s.inheritable_full,
      sub_le s.effective_full,
      sub_le s.bounding_full,
      sub_le s.ambient_full,
    )
