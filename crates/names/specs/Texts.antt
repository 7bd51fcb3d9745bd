-- Texts in names and what they come to, as the request says ("Say it in names"): sets, places, written forms, answers and buffers.
-- proofs/Applied.antt proves the statement at the end by computing both sides; `vectors` runs further texts. Assumes nothing.
use Rattle.std.specs.Prelude.{ℕ, ◌≡◌, List, [], ◌∷◌, ◌++◌, replicate, Ok, Err}
use Rattle.attribute.specs.Writer.{write_code}
use Rattle.attribute.specs.declared.WriteError.TheVariants.{OutOfRange, NoRoom}
use Rattle.format.specs.Line.{bytes}
use Rattle.names.specs.declared.Sets.{Sets}
use Rattle.names.specs.declared.ReadError.TheVariants.{Malformed}
use Rattle.names.specs.Reading.{Reading, read_text}
use Rattle.names.specs.Writing.{sets_text, names_answer, names_buffer}

-- a permitted, an inheritable and an effective set
abbrev pub sets : ℕ → ℕ → ℕ → Sets
sets p i e = record { permitted = p; inheritable = i; effective = e }

-- what these three sets are read as
abbrev pub means : ℕ → ℕ → ℕ → Reading
means p i e = Ok (sets p i e)

-- every name, and no two neighbours with the same flags
abbrev pub every_name : List ℕ
every_name =
    bytes "cap_chown=e cap_dac_override=i cap_dac_read_search=ei cap_fowner=p cap_fsetid=ep cap_kill=ip cap_setgid=eip"
    ++ bytes " cap_setuid=e cap_setpcap=i cap_linux_immutable=ei cap_net_bind_service=p cap_net_broadcast=ep"
    ++ bytes " cap_net_admin=ip cap_net_raw=eip cap_ipc_lock=e cap_ipc_owner=i cap_sys_module=ei cap_sys_rawio=p"
    ++ bytes " cap_sys_chroot=ep cap_sys_ptrace=ip cap_sys_pacct=eip cap_sys_admin=e cap_sys_boot=i cap_sys_nice=ei"
    ++ bytes " cap_sys_resource=p cap_sys_time=ep cap_sys_tty_config=ip cap_mknod=eip cap_lease=e cap_audit_write=i"
    ++ bytes " cap_audit_control=ei cap_setfcap=p cap_mac_override=ep cap_mac_admin=ip cap_syslog=eip cap_wake_alarm=e"
    ++ bytes " cap_block_suspend=i cap_audit_read=ei cap_perfmon=p cap_bpf=ep cap_checkpoint_restore=ip"

abbrev pub every_name_sets : Sets
every_name_sets = sets 0x1c78f1e3c78 0x1366cd9b366 0xad5ab56ad5

-- a buffer of n bytes, each 7
abbrev pub sevens : ℕ → List ℕ
sevens n = replicate n 7

pub record TextsHold : Type 0 where
  -- `+` gives: CAP_NET_RAW to the effective and the permitted set
  pub net_raw_read : read_text (bytes "cap_net_raw+ep") ≡ means 0x2000 0 0x2000
  -- every name means its capability
  pub every_name_read : read_text every_name ≡ Ok every_name_sets
  -- text without a clause is three empty sets
  pub empty : read_text [] ≡ means 0 0 0
  pub only_blanks : read_text (bytes " \n\t") ≡ means 0 0 0
  -- spaces, tabs and newlines part clauses, any number of them, also at the ends
  pub blanks : read_text (bytes "\n cap_kill=e\tcap_chown=p\ncap_fsetid=i \t") ≡ means 1 0x10 0x20
  -- names and `all` in either case, letter by letter
  pub either_case : read_text (bytes "Cap_Net_RAW+p aLL+i") ≡ means 0x2000 0x1ffffffffff 0
  -- flags in any order, also repeated
  pub flags : read_text (bytes "cap_chown=pie cap_kill+peep") ≡ means 0x21 1 0x21
  -- names joined; one given twice counts once
  pub joined : read_text (bytes "cap_chown,cap_bpf,cap_chown=i") ≡ means 0 0x8000000001 0
  -- a clause without names means all 41
  pub unnamed : read_text (bytes "=p+e") ≡ means 0x1ffffffffff 0 0x1ffffffffff
  -- `=` takes its capabilities out of all three sets before it gives
  pub put : read_text (bytes "=eip cap_kill=p") ≡ means 0x1ffffffffff 0x1ffffffffdf 0x1ffffffffdf
  -- `-` takes, and what is not there stays away
  pub take : read_text (bytes "all=ep cap_kill-ip") ≡ means 0x1ffffffffdf 0 0x1ffffffffff
  -- from left to right, `=` also later and without flags
  pub operators : read_text (bytes "cap_chown=ei-e+p cap_kill+e=") ≡ means 1 1 0
  -- a later clause undoes an earlier one
  pub clauses : read_text (bytes "cap_kill=eip cap_chown+e cap_kill-eip") ≡ means 0 0 1
  -- a clause without names begins with `=`
  pub plus_first : read_text (bytes "+e") ≡ Err (Malformed 0)
  pub dash_first : read_text (bytes "cap_kill=e -e") ≡ Err (Malformed 11)
  -- `all` stands alone
  pub all_joined : read_text (bytes "all,cap_chown=e") ≡ Err (Malformed 3)
  pub joined_all : read_text (bytes "cap_chown,all=e") ≡ Err (Malformed 10)
  -- text that only stops too early has its whole length as its place
  pub no_operator : read_text (bytes "cap_net_raw") ≡ Err (Malformed 11)
  pub within_a_name : read_text (bytes "cap_net_r") ≡ Err (Malformed 9)
  pub no_flag : read_text (bytes "cap_kill+") ≡ Err (Malformed 9)
  pub no_name : read_text (bytes "cap_kill,") ≡ Err (Malformed 9)
  -- `+` and `-` need a flag
  pub flag_due : read_text (bytes "cap_kill+ cap_chown=e") ≡ Err (Malformed 9)
  pub flag_due_first : read_text (bytes "cap_kill-=e") ≡ Err (Malformed 9)
  -- flags are lower case
  pub upper_case_flag : read_text (bytes "cap_kill=eE") ≡ Err (Malformed 10)
  -- a name goes on as some name does
  pub other_name : read_text (bytes "cap_net_bind_server=e") ≡ Err (Malformed 17)
  -- numbers are no names
  pub number : read_text (bytes "cap_kill=e 5=e") ≡ Err (Malformed 11)
  -- no blank stands within a clause, nor a comma behind flags
  pub blank_within : read_text (bytes "cap_kill =e") ≡ Err (Malformed 8)
  pub comma_behind : read_text (bytes "cap_kill=e,cap_chown=e") ≡ Err (Malformed 10)
  -- no other byte parts clauses
  pub carriage_return : read_text (bytes "cap_kill=e" ++ (13 ∷ [])) ≡ Err (Malformed 10)
  -- the written form: one clause to a capability, by number, flags in the order e, i, p after `=`, one space between
  pub written : sets_text (sets 0x2001 0x20 0x2020) ≡ bytes "cap_chown=p cap_kill=ei cap_net_raw=ep"
  pub every_name_written : sets_text every_name_sets ≡ every_name
  -- three empty sets are the empty text, which fits a buffer of no bytes
  pub nothing_written : names_answer (sets 0 0 0) 0 ≡ Ok 0
  -- 22 for a bit above 40 in any of the three, and that comes before 28
  pub above_permitted : names_answer (sets 0x20000000000 0 0) 748 ≡ Err OutOfRange
  pub above_inheritable : names_answer (sets 0 0x8000000000000000 0) 748 ≡ Err OutOfRange
  pub above_effective : names_answer (sets 1 1 0x20000000001) 0 ≡ Err OutOfRange
  -- 28 for a buffer that is too short, and else the text's length
  pub no_room : names_answer (sets 1 0 0) 10 ≡ Err NoRoom
  pub room : names_answer (sets 1 0 0) 11 ≡ Ok 11
  -- the numbers of both
  pub refusals_told : (write_code OutOfRange ≡ 22) × (write_code NoRoom ≡ 28)
  -- bytes past the text stay; where the writer refuses, all bytes do
  pub buffer : names_buffer (sets 1 0 0) (sevens 13) ≡ bytes "cap_chown=p" ++ (7 ∷ 7 ∷ [])
  pub refused_buffer : names_buffer (sets 1 0 0) (sevens 10) ≡ sevens 10
