-- What numbers come to that are or are not the values of credentials. Assumes nothing.
use mathlib.Core.Path.{◌≡◌, refl, sym, ap}
use mathlib.Core.Bool.{Bool, true, false, cond, true≢false}
use mathlib.Core.List.{List}
use Prim.Native.Nat.{ℕ}
use lib.ListN.{length}
use Rattle.std.specs.Prelude.{Option, Some, None, Result, Ok, Err, MatchResult, IsErrAnd}
use Rattle.std.specs.Option.{is_some, unwrap_or}
use Rattle.credentials.specs.declared.Credentials.{Credentials}
use Rattle.format.specs.Sheet.{sheet_answer, sheet_buffer, sheet_write_code}
use Rattle.capi.specs.Interface.{are_values, given_credentials, joined, values_buffer, values_written, answered}

-- numbers that are the values of no credentials: 72, and nothing written; else what the sheet writer answers and writes
not_given : (t : Bool) (c : Credentials) → cond {A = Option Credentials} t (Some c) None ≡ None → t ≡ false
not_given true c h = absurd (true≢false (ap is_some h))
not_given false c h = refl

is_given : (t : Bool) {c : Credentials} (d : Credentials) → cond {A = Option Credentials} t (Some c) None ≡ Some d → (t ≡ true) × (c ≡ d)
is_given true d h = (refl, ap (λ (r : Option Credentials). unwrap_or r d) h)
is_given false d h = absurd (true≢false (ap is_some (sym h)))

module _ (vs old : List ℕ) where
  pub not_written : given_credentials vs ≡ None → (joined 72 0 ≡ answered sheet_write_code (values_written vs (length old))) × (old ≡ values_buffer vs old)
  unfolding given_credentials values_written values_buffer
  not_written h = let t = not_given (are_values vs) _ h in rw t (refl, refl)

  pub sheet_written : (c : Credentials) → given_credentials vs ≡ Some c
      → (answered sheet_write_code (sheet_answer c (length old)) ≡ answered sheet_write_code (values_written vs (length old))) × (sheet_buffer c old ≡ values_buffer vs old)
  unfolding given_credentials values_written values_buffer
  sheet_written c h =
      let t = is_given (are_values vs) c h in
      rw t.0 (ap (λ (d : Credentials). answered sheet_write_code (sheet_answer d (length old))) (sym t.1), ap (λ (d : Credentials). sheet_buffer d old) (sym t.1))

-- an answer whose refusal became its code is the same number
pub by_code : {E : Type 0} (code : E → ℕ) (r : Result ℕ E) (s : Result ℕ ℕ) → MatchResult r (λ x. s ≡ Ok x) (λ e. IsErrAnd s (λ n. n ≡ code e))
    → answered (λ n. n) s ≡ answered code r
by_code code (Ok x) s h = ap (answered (λ n. n)) h
by_code code (Err e) (Err n) h = ap (λ (m : ℕ). joined m 0) h
by_code code (Err e) (Ok n) h = absurd h
