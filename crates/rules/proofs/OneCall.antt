-- What holds of the answer to one call: it has to hold of the two refusals that come first, and of what the call's own rules answer. Assumes nothing.
use Prim.Native.Nat.{ℕ}
use mathlib.Core.Path.{◌≡◌, subst, sym}
use mathlib.Core.Bool.{Bool}
use mathlib.Core.List.{List}
use lib.ListN.{length}
use Rattle.std.specs.Prelude.{Option, Err}
use Rattle.credentials.specs.Validity.{valid}
use Rattle.credentials.specs.declared.Credentials.{Credentials}
use Rattle.rules.specs.Decoding.{decode, known}
use Rattle.rules.specs.Call.{answer, decoded, performed}
use Rattle.rules.specs.Answers.{Answer}
use Rattle.rules.specs.declared.Refusal.TheVariants.{InvalidArgument, InvalidCredentials}
use Rattle.rules.specs.declared.Call.{Call}
use Rattle.rules.proofs.Conditions.{cond_cases}

module _ (P : Answer → Type 0) (c : Credentials) (invalid : P (Err InvalidCredentials)) (unknown : P (Err InvalidArgument)) where
  pub answered : (number x y z : ℕ) (s : List ℕ) (right : Bool) (k : Call) → decode number x y z (length s) ≡ known right k → P (performed c s k)
      → P (answer c number x y z s)
  unfolding answer known
  answered number x y z s right k e h =
      cond_cases P (valid c) _ _
      (λ v. subst (λ (d : Option Call). P (decoded c s d)) (sym e) (cond_cases (λ (d : Option Call). P (decoded c s d)) right _ _ (λ r. h) (λ r. unknown)))
      (λ v. invalid)
