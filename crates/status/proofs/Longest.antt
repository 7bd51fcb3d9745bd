-- The longest list has 372 bytes. Assumes nothing.
use mathlib.Core.Path.{◌≡◌, refl, ap}
use mathlib.Core.List.{List, [], ◌∷◌, ◌++◌}
use mathlib.Core.Bool.{Bool, true, false, cond}
use Prim.Native.Nat.{ℕ, ◌+◌, ◌*◌, ◌≤◌}
use native.Mathlib.Omega.{arith}
use lib.Dec.{eqb}
use lib.ListN.{length, length-append}
use Rattle.std.specs.Prelude.{Result, Ok, Err}
use Rattle.credentials.specs.Validity.{valid}
use Rattle.credentials.specs.declared.Credentials.{Credentials}
use Rattle.rules.specs.Fields.{number}
use Rattle.format.specs.Line.{bytes, Kind, decimal, decimal_text, value_text, keyed_text, read, read_keyed, read_hex, read_digits, read_decimal, starts_with, after_key}
use Rattle.format.specs.Report.{report, invalid}
use Rattle.format.proofs.Fitting.{FitAll}
use Rattle.format.proofs.Lengths.{length_hex, length_one, at_most, most_keyed, length_keyed, length_line}
use Rattle.format.proofs.ReadWritten.{keyed_written}
use Rattle.status.specs.declared.Status.{Status}
use Rattle.status.specs.declared.ReadError.{ReadError}
use Rattle.status.specs.declared.ReadError.TheVariants.{Malformed}
use Rattle.status.specs.Lines.{lines_of, entries, begins_one, wanted}
use Rattle.status.specs.Reading.{up_to, since, value_of, read_values, read_dues, read_status}
use Rattle.status.specs.RoundTrip.{Writable}
use Rattle.status.specs.Comparing.{id_keys, set_keys, flag_keys, keys, values_of, shown_of, difference_text, differences, differing, last_line, list_text, laid, beside, compared}
use Rattle.status.specs.Longest.{longest_list, Longest}
use Rattle.status.proofs.RoundTrip.{round_trip, shown_writable}

-- ---- no list is longer

-- the most bytes of the lines of these keys: of each the key, two values with the byte before each, and a newline
unfoldable most : List Kind → ℕ
most [] = 0
most (k ∷ ks) = length k.key + most_keyed [] k.form + most_keyed [] k.form + 1 + most ks

-- 64 bytes of keys, eight IDs of ten digits, ten sets of 16, two flags of one, and three bytes more in each of ten lines
most_keys : most keys ≤ 336
unfolding most id_keys set_keys flag_keys keys
most_keys = omega (arith, at_most 9 4294967295 (omega arith), length_one 1 (omega arith))

length_difference : (k : Kind) (p f : ℕ) → length (difference_text k p f) ≡ length k.key + length (value_text k.form p) + length (value_text k.form f) + 3
unfolding difference_text
length_difference k p f = simp length-append (omega arith)

length_differences : (ks : List Kind) (ps fs : List ℕ) → FitAll ks ps → FitAll ks fs → length (differences ks ps fs) ≤ most ks
unfolding differences FitAll most
length_differences [] ps fs a b = omega arith
length_differences (k ∷ ks) [] fs a b = absurd a
length_differences (k ∷ ks) (p ∷ ps) [] a b = absurd b
length_differences (k ∷ ks) (p ∷ ps) (f ∷ fs) a b = by_test (eqb p f) (length_differences ks ps fs a.1 b.1)
  where
    rest : List ℕ
    rest = differences ks ps fs

    by_test : (q : Bool) → length rest ≤ most ks
        → length (cond q rest (difference_text k p f ++ rest)) ≤ length k.key + most_keyed [] k.form + most_keyed [] k.form + 1 + most ks
    by_test true i = omega arith
    by_test false i =
        omega (
          arith,
          length-append (difference_text k p f) rest,
          length_difference k p f,
          length_keyed [] (value_text k.form p),
          length_keyed [] (value_text k.form f),
          length_line [] k.form p a.0,
          length_line [] k.form f b.0,
        )

flag_small : (b : Bool) → number b ≤ 1
unfolding number
flag_small true = omega arith
flag_small false = omega arith

-- the compared values of what a text can show
values_fit : (s : Status) → Writable s → FitAll keys (values_of s)
unfolding FitAll id_keys set_keys flag_keys keys
values_fit s w = omega (arith, w.uids, w, flag_small s.nnp)

length_list : (predicted found : Status) → Writable predicted → Writable found → length (list_text predicted found) ≤ longest_list
unfolding list_text differing last_line
length_list predicted found w v =
    omega (
      arith,
      length-append (differences keys (values_of predicted) (values_of found)) last_line,
      length_differences keys (values_of predicted) (values_of found) (values_fit predicted w) (values_fit found v),
      most_keys,
    )

-- ---- and some list is as long

-- credentials and what a text shows, by the value of their IDs
abbrev holding : ℕ → Credentials
holding id =
    record {
      uids = record { real = id; effective = id; saved = id; filesystem = id };
      gids = record { real = 0; effective = 0; saved = 0; filesystem = 0 };
      sets = record { permitted = 0; inheritable = 0; effective = 0; bounding = 0; ambient = 0 };
      securebits = 0;
      nnp = false;
    }

abbrev showing : ℕ → Status
showing id =
    record {
      uids = record { real = id; effective = id; saved = id; filesystem = id };
      sets = record { permitted = 1; inheritable = 1; effective = 1; bounding = 1; ambient = 1 };
      nnp = true;
    }

abbrev text : List ℕ
text =
    bytes "Uid:\t4294967295\t4294967295\t4294967295\t4294967295\nCapInh:\t0000000000000001\nCapPrm:\t0000000000000001\n"
    ++ bytes "CapEff:\t0000000000000001\nCapBnd:\t0000000000000001\nCapAmb:\t0000000000000001\nNoNewPrivs:\t1\n"

text_shows : read_status text ≡ Ok (showing 4294967295)
unfolding read_hex read_digits read_decimal after_key lines_of entries starts_with begins_one wanted up_to since value_of read_values read_dues read_status
text_shows = refl

text_compared : compared text (holding 4294967294) ≡ report (list_text (shown_of (holding 4294967294)) (showing 4294967295))
unfolding valid laid compared
text_compared = ap (λ (r : Result Status ReadError). beside r (holding 4294967294)) text_shows

all_differ : (p f : ℕ) → eqb p f ≡ false
    → length (list_text (shown_of (holding p)) (showing f)) ≡ 292 + 4 * (length (decimal_text p) + length (decimal_text f))
unfolding number id_keys set_keys flag_keys keys differences differing last_line list_text
all_differ p f h = rw h (simp (length-append, length_difference, length_hex, length_one 0 (omega arith), length_one 1 (omega arith)) (omega arith))

-- how many digits a number has, by a text that is read as it
digits : (v : ℕ) (line : List ℕ) → read_keyed [] (decimal 4294967295) line ≡ read v [] → length (decimal_text v) + 1 ≡ length line
digits v line e =
    omega (
      arith,
      ap length (keyed_written [] (decimal 4294967295) v line [] e).0,
      length-append (keyed_text [] (decimal_text v)) [],
      length_keyed [] (decimal_text v),
    )

is_longest : length (list_text (shown_of (holding 4294967294)) (showing 4294967295)) ≡ longest_list
unfolding read_digits read_decimal after_key
is_longest =
    omega (
      arith,
      all_differ 4294967294 4294967295 refl,
      digits 4294967294 (bytes "4294967294\n") refl,
      digits 4294967295 (bytes "4294967295\n") refl,
    )

-- ---- the statement

lists : (text : List ℕ) (c : Credentials) (t : List ℕ) → compared text c ≡ report t → length t ≤ longest_list
unfolding laid compared
lists text c t e = by_reading (read_status text) refl e
  where
    by_validity : (s : Status) (v : Bool) → read_status text ≡ Ok s → valid c ≡ v
        → cond v (report (list_text (shown_of c) s)) invalid ≡ report t
        → length t ≤ longest_list
    by_validity s true r h g =
        let p : list_text (shown_of c) s ≡ t = cc in
        rw (← p) (length_list (shown_of c) s (shown_writable c h) (round_trip.read_written text s r).1)
    by_validity s false r h g = let z : ◌≡◌ {A = ℕ} 0 1 = cc in absurd (omega arith)

    by_reading : (r : Result Status ReadError) → read_status text ≡ r → beside r c ≡ report t → length t ≤ longest_list
    by_reading (Ok s) h g = by_validity s (valid c) h refl g
    by_reading (Err (Malformed line)) h g = let z : ◌≡◌ {A = ℕ} 0 1 = cc in absurd (omega arith)

pub longest : Longest
longest = record { lists = lists; a_longest_list = (text, holding 4294967294, _, text_compared, is_longest) }
