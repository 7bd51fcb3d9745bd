-- `calls::decoding::decode` meets its contract: the calls 16 to 22, which lie too deep in its definition for the check. Assumes nothing.
use Rattle.std.proofs.Common.{◌≡◌, Bool, true, false, refl}
use Rattle.std.specs.Bool.{then_some}
use Rattle.rules.specs.Decoding.{decode, known, uses_one}
use Rattle.rules.specs.declared.Call.{Call}
use Rattle.calls.proofs.decoding.decode.Goals as goal

some_known : (right : Bool) (call : Call) → then_some right call ≡ known right call
unfolding known
some_known true call = refl
some_known false call = refl

pub returns-in-16 : goal.returns-in-16
unfolding decode uses_one
returns-in-16 c = simp (c.then_some-in-16.ensures, some_known, c.in-16.is)

pub returns-in-17 : goal.returns-in-17
unfolding decode uses_one
returns-in-17 c = simp (c.then_some-in-17.ensures, some_known, c.in-17.is)

pub returns-in-18 : goal.returns-in-18
unfolding decode uses_one
returns-in-18 c = simp (c.then_some-in-18.ensures, some_known, c.in-18.is)

pub returns-in-19 : goal.returns-in-19
unfolding decode uses_one
returns-in-19 c = simp (c.then_some-in-19.ensures, some_known, c.in-19.is)

pub returns-in-20 : goal.returns-in-20
unfolding decode uses_one
returns-in-20 c = simp (c.then_some-in-20.ensures, some_known, c.in-20.is)

pub returns-in-21 : goal.returns-in-21
unfolding decode uses_one
returns-in-21 c = simp (c.then_some-in-21.ensures, some_known, c.in-21.is)

pub returns-in-22 : goal.returns-in-22
unfolding decode uses_one
returns-in-22 c = simp (c.then_some-in-22.ensures, some_known, c.in-22.is)
