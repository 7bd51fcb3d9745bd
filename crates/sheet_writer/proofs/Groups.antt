-- Laws of the sheet's groups of lines, written one after the other. Assumes nothing.
use native.Mathlib.Omega.{arith}
use mathlib.Core.Path.{◌≡◌, refl, sym, ap, ◌∙◌}
use mathlib.Core.List.{List, [], ◌∷◌, ◌++◌, append_assoc, append-nil}
use mathlib.Core.Bool.{Bool, true, false}
use Prim.Native.Nat.{ℕ, ◌+◌, ◌*◌}
use lib.ListN.{length, length-append}
use Rattle.credentials.specs.declared.Ids.{Ids}
use Rattle.credentials.specs.declared.Sets.{Sets}
use Rattle.credentials.specs.declared.Credentials.{Credentials}
use Rattle.rules.specs.Fields.{number}
use Rattle.format.specs.Line.{bytes, Kind, hex_text, decimal_text, keyed_text, line_text, lines_text}
use Rattle.format.specs.Sheet.{id_kinds, uid_kinds, gid_kinds, set_kinds, flag_kinds, sheet_kinds, sheet_text, id_values, set_values, flag_values, sheet_values}
use Rattle.format.proofs.Lengths.{length_hex, length_one, length_keyed}
use Rattle.line_writer.specs.Inside.{lines_put}
use Rattle.line_writer.proofs.LineLaws.{lines_grouped}

text_grouped : (ks ls : List Kind) (vs ws : List ℕ) → length ks ≡ length vs → lines_text (ks ++ ls) (vs ++ ws) ≡ lines_text ks vs ++ lines_text ls ws
unfolding lines_text
text_grouped [] ls [] ws e = refl
text_grouped [] ls (v ∷ vs) ws e = absurd (omega (arith, e))
text_grouped (k ∷ ks) ls [] ws e = absurd (omega (arith, e))
text_grouped (k ∷ ks) ls (v ∷ vs) ws e =
    ap (λ (t : List ℕ). line_text k v ++ t) (text_grouped ks ls vs ws (omega (arith, e))) ∙ sym (append_assoc (line_text k v) (lines_text ks vs) (lines_text ls ws))

sheet_text_lem : (c : Credentials)
    → sheet_text c
    ≡ lines_text uid_kinds (id_values c.uids)
    ++ (lines_text gid_kinds (id_values c.gids) ++ (lines_text set_kinds (set_values c.sets) ++ lines_text flag_kinds (flag_values c.securebits c.nnp)))
unfolding sheet_text sheet_kinds id_kinds uid_kinds gid_kinds set_kinds
sheet_text_lem c =
    let flags = flag_values c.securebits c.nnp in
    text_grouped uid_kinds (gid_kinds ++ (set_kinds ++ flag_kinds)) (id_values c.uids) (id_values c.gids ++ (set_values c.sets ++ flags)) refl
    ∙ ap (λ (t : List ℕ). lines_text uid_kinds (id_values c.uids) ++ t)
    (text_grouped gid_kinds (set_kinds ++ flag_kinds) (id_values c.gids) (set_values c.sets ++ flags) refl
    ∙ ap (λ (t : List ℕ). lines_text gid_kinds (id_values c.gids) ++ t) (text_grouped set_kinds flag_kinds (set_values c.sets) flags refl))

sets_text : (s : Sets) → lines_text set_kinds (set_values s)
    ≡ (((keyed_text (bytes "permitted=") (hex_text 16 s.permitted) ++ keyed_text (bytes "inheritable=") (hex_text 16 s.inheritable)) ++ keyed_text (bytes "effective=") (hex_text 16 s.effective)) ++ keyed_text (bytes "bounding=") (hex_text 16 s.bounding)) ++ keyed_text (bytes "ambient=") (hex_text 16 s.ambient)
unfolding lines_text set_kinds
sets_text s = simp (append_assoc, append-nil)

flags_text : (securebits : ℕ) (nnp : Bool) → lines_text flag_kinds (flag_values securebits nnp)
    ≡ keyed_text (bytes "securebits=") (hex_text 2 securebits) ++ keyed_text (bytes "nnp=") (decimal_text (number nnp))
unfolding lines_text flag_kinds
flags_text securebits nnp = simp (append-nil)

-- ---- lengths

flag_length : (nnp : Bool) → length (decimal_text (number nnp)) ≡ 1
unfolding number
flag_length true = length_one 1 (omega arith)
flag_length false = length_one 0 (omega arith)

-- the digits of four IDs
abbrev pub digits : Ids → ℕ
digits u = length (decimal_text u.real) + length (decimal_text u.effective) + length (decimal_text u.saved) + length (decimal_text u.filesystem)

ids_length : (letter : List ℕ) (u : Ids) → length (lines_text (id_kinds letter) (id_values u)) ≡ 21 + 4 * length letter + digits u
unfolding lines_text id_kinds
ids_length letter u = simp (append-nil, length-append, length_keyed) (omega arith)

sets_length : (s : Sets) → length (lines_text set_kinds (set_values s)) ≡ 134
sets_length s = ap length (sets_text s) ∙ simp (length-append, length_keyed, length_hex)

flags_length : (securebits : ℕ) (nnp : Bool) → length (lines_text flag_kinds (flag_values securebits nnp)) ≡ 20
flags_length securebits nnp = ap length (flags_text securebits nnp) ∙ simp (length-append, length_keyed, length_hex, flag_length nnp)

pub length_of_sheet : (c : Credentials) → length (sheet_text c) ≡ 204 + digits c.uids + digits c.gids
unfolding uid_kinds gid_kinds
length_of_sheet c =
    ap length (sheet_text_lem c)
    ∙ simp (length-append, ids_length, sets_length c.sets, flags_length c.securebits c.nnp) (omega arith)

-- ---- the groups, one after the other

module _ (table : List ℕ) where
  -- a buffer and a position are what lines leave
  abbrev Puts : List Kind → List ℕ → List ℕ → ℕ → List ℕ → ℕ → Type 0
  Puts ks vs old at next to = (to ≡ (lines_put table ks vs old at).at) × (next ≡ (lines_put table ks vs old at).buffer)

  -- one group after the lines before it
  puts_then : (ks ls : List Kind) (vs ws old one two : List ℕ) (at p q : ℕ) → length ks ≡ length vs
      → Puts ks vs old at one p → Puts ls ws one p two q → Puts (ks ++ ls) (vs ++ ws) old at two q
  puts_then ks ls vs ws old one two at p q n e f = rw (lines_grouped table ks ls vs ws old at n, ← e.0, ← e.1) f

  -- the lines of a sheet as its groups put them
  pub sheet_put : (c : Credentials) (old one two three four : List ℕ) (at p q r s : ℕ)
      → Puts uid_kinds (id_values c.uids) old at one p
      → Puts gid_kinds (id_values c.gids) one p two q
      → Puts set_kinds (set_values c.sets) two q three r
      → Puts flag_kinds (flag_values c.securebits c.nnp) three r four s
      → Puts sheet_kinds (sheet_values c) old at four s
  unfolding sheet_kinds id_kinds uid_kinds gid_kinds set_kinds
  sheet_put c old one two three four at p q r s e f g h =
      let flags = flag_values c.securebits c.nnp in
      let sets = set_values c.sets in
      puts_then uid_kinds (gid_kinds ++ (set_kinds ++ flag_kinds)) (id_values c.uids) (id_values c.gids ++ (sets ++ flags)) old one four at p s refl e
      (puts_then gid_kinds (set_kinds ++ flag_kinds) (id_values c.gids) (sets ++ flags) one two four p q s refl f
      (puts_then set_kinds flag_kinds sets flags two three four q r s refl g h))
