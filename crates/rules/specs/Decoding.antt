-- "The eighteen calls", the four of "Group IDs on the sheet", and refusal 22 of "What comes back": which numbers, operands and attributes make a call.
-- Assumes nothing.
use Rattle.std.specs.Prelude.{ℕ, Bool, cond, ◌&&◌, eqb, leb, Option, Some, None}
use Rattle.capabilities.specs.Sets.{full, within}
use Rattle.credentials.specs.Validity.{id_in_range, securebits_in_range}
use Rattle.rules.specs.Ids.{NO_ID}
use Rattle.rules.specs.declared.Call.{Call}
use Rattle.rules.specs.declared.Call.TheVariants.{Execve, Capset, BoundingDrop, BoundingRead, AmbientRaise, AmbientLower, AmbientIsSet, AmbientClearAll, SetSecurebits, GetSecurebits, SetKeepCaps, GetKeepCaps, SetNoNewPrivs, GetNoNewPrivs, Setuid, Setreuid, Setresuid, Setfsuid, Setgid, Setregid, Setresgid, Setfsgid}

-- a call that uses a, b and c has no attribute
abbrev pub uses_three : ℕ → Bool
uses_three size = eqb size 0

-- a call that uses a and b has c 0 besides
abbrev pub uses_two : ℕ → ℕ → Bool
uses_two c size = eqb c 0 && uses_three size

-- a call that uses a has b 0 besides
unfoldable pub uses_one : ℕ → ℕ → ℕ → Bool
uses_one b c size = eqb b 0 && uses_two c size

-- a call that uses no operand has a 0 besides
abbrev pub uses_none : ℕ → ℕ → ℕ → ℕ → Bool
uses_none a b c size = eqb a 0 && uses_one b c size

-- a capability's number is at most 40
abbrev pub capability_in_range : ℕ → Bool
capability_in_range n = leb n 40

-- a set has no bit above 40
abbrev set_in_range : ℕ → Bool
set_in_range x = within x full

-- call 1's flags are at most 31
abbrev pub flags_in_range : ℕ → Bool
flags_in_range flags = leb flags 31

-- an ID, or 4294967295, which stands for none
abbrev pub id_or_none : ℕ → Bool
id_or_none id = leb id NO_ID

-- a call, if its operands are right
unfoldable pub known : Bool → Call → Option Call
known right call = cond right (Some call) None

-- a number, the operands and the attribute's length as a call, or as none; in call 1 operand c is the file's group, which is in range as its owner is
unfoldable pub decode : ℕ → ℕ → ℕ → ℕ → ℕ → Option Call
decode number a b c size =
    cond (eqb number 1) (known (id_in_range a && flags_in_range b && id_in_range c) (Execve a b c))
    (cond (eqb number 2) (known (uses_three size && set_in_range a && set_in_range b && set_in_range c) (Capset a b c))
    (cond (eqb number 3) (known (uses_one b c size && capability_in_range a) (BoundingDrop a))
    (cond (eqb number 4) (known (uses_one b c size && capability_in_range a) (BoundingRead a))
    (cond (eqb number 5) (known (uses_one b c size && capability_in_range a) (AmbientRaise a))
    (cond (eqb number 6) (known (uses_one b c size && capability_in_range a) (AmbientLower a))
    (cond (eqb number 7) (known (uses_one b c size && capability_in_range a) (AmbientIsSet a))
    (cond (eqb number 8) (known (uses_none a b c size) AmbientClearAll)
    (cond (eqb number 9) (known (uses_one b c size && securebits_in_range a) (SetSecurebits a))
    (cond (eqb number 10) (known (uses_none a b c size) GetSecurebits)
    (cond (eqb number 11) (known (uses_one b c size && leb a 1) (SetKeepCaps (eqb a 1)))
    (cond (eqb number 12) (known (uses_none a b c size) GetKeepCaps)
    (cond (eqb number 13) (known (uses_one b c size && eqb a 1) SetNoNewPrivs)
    (cond (eqb number 14) (known (uses_none a b c size) GetNoNewPrivs)
    (cond (eqb number 15) (known (uses_one b c size && id_in_range a) (Setuid a))
    (cond (eqb number 16) (known (uses_two c size && id_or_none a && id_or_none b) (Setreuid a b))
    (cond (eqb number 17) (known (uses_three size && id_or_none a && id_or_none b && id_or_none c) (Setresuid a b c))
    (cond (eqb number 18) (known (uses_one b c size && id_or_none a) (Setfsuid a))
    (cond (eqb number 19) (known (uses_one b c size && id_in_range a) (Setgid a))
    (cond (eqb number 20) (known (uses_two c size && id_or_none a && id_or_none b) (Setregid a b))
    (cond (eqb number 21) (known (uses_three size && id_or_none a && id_or_none b && id_or_none c) (Setresgid a b c))
    (cond (eqb number 22) (known (uses_one b c size && id_or_none a) (Setfsgid a))
    None)))))))))))))))))))))
