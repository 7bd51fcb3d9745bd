-- A list of calls, one after the other ("Demand 3's list"). Assumes nothing.
use Rattle.std.specs.Prelude.{ℕ, List, [], ◌∷◌}
use Rattle.credentials.specs.declared.Credentials.{Credentials}
use Rattle.rules.specs.Answers.{code, value, cause, after}
use Rattle.rules.specs.Call.{answer}

-- one call of a list: its number, which may be no call's, its operands and its attribute bytes
pub record Step : Type 0 where
  pub number : ℕ
  pub a : ℕ
  pub b : ℕ
  pub c : ℕ
  pub attribute : List ℕ

-- what comes back from one call: code, value, cause and credentials
pub record Result : Type 0 where
  pub code : ℕ
  pub value : ℕ
  pub cause : ℕ
  pub after : Credentials

-- the result of a call on given credentials
unfoldable pub result : Credentials → Step → Result
result start x =
    let r = answer start x.number x.a x.b x.c x.attribute in
    record { code = code r; value = value r; cause = cause r; after = after start r }

-- the results of a list of calls, each on the credentials that the last one left
unfoldable pub run : Credentials → List Step → List Result
run start [] = []
run start (x ∷ xs) = result start x ∷ run (result start x).after xs

-- the credentials after results: the last one's, and where there is none the start's
unfoldable pub last_of : Credentials → List Result → Credentials
last_of start [] = start
last_of start (r ∷ rs) = last_of r.after rs

-- the credentials that a list of calls leaves
abbrev pub left : Credentials → List Step → Credentials
left start steps = last_of start (run start steps)
