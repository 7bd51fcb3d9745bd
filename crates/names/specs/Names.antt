-- The capabilities' names ("Say it in names"): those of linux/capability.h in lower case, by number, 0 to 40. Assumes nothing.
-- host/tests compares them with the system's header; proofs/Words.antt proves the statement at the end by computing it.
use Rattle.std.specs.Prelude.{◌≡◌, Bool, true, false, not, ◌&&◌, List, [], ◌∷◌, ℕ, eqb, length}
use Prim.Native.String.{String}
use Rattle.format.specs.Line.{bytes}

unfoldable pub capability_names : List String
capability_names =
    "cap_chown" ∷
    "cap_dac_override" ∷
    "cap_dac_read_search" ∷
    "cap_fowner" ∷
    "cap_fsetid" ∷
    "cap_kill" ∷
    "cap_setgid" ∷
    "cap_setuid" ∷
    "cap_setpcap" ∷
    "cap_linux_immutable" ∷
    "cap_net_bind_service" ∷
    "cap_net_broadcast" ∷
    "cap_net_admin" ∷
    "cap_net_raw" ∷
    "cap_ipc_lock" ∷
    "cap_ipc_owner" ∷
    "cap_sys_module" ∷
    "cap_sys_rawio" ∷
    "cap_sys_chroot" ∷
    "cap_sys_ptrace" ∷
    "cap_sys_pacct" ∷
    "cap_sys_admin" ∷
    "cap_sys_boot" ∷
    "cap_sys_nice" ∷
    "cap_sys_resource" ∷
    "cap_sys_time" ∷
    "cap_sys_tty_config" ∷
    "cap_mknod" ∷
    "cap_lease" ∷
    "cap_audit_write" ∷
    "cap_audit_control" ∷
    "cap_setfcap" ∷
    "cap_mac_override" ∷
    "cap_mac_admin" ∷
    "cap_syslog" ∷
    "cap_wake_alarm" ∷
    "cap_block_suspend" ∷
    "cap_audit_read" ∷
    "cap_perfmon" ∷
    "cap_bpf" ∷
    "cap_checkpoint_restore" ∷
    []

-- ---- the statement

-- the first text begins the second, or is the same
unfoldable pub begins : List ℕ → List ℕ → Bool
begins [] t = true
begins (k ∷ ks) [] = false
begins (k ∷ ks) (b ∷ t) = eqb k b && begins ks t

-- neither of two texts begins the other, so that they differ
abbrev pub apart : List ℕ → List ℕ → Bool
apart t u = not (begins t u) && not (begins u t)

-- a text is apart from each of these names
unfoldable pub apart_from_all : List ℕ → List String → Bool
apart_from_all t [] = true
apart_from_all t (name ∷ names) = apart t (bytes name) && apart_from_all t names

-- each of these names is apart from those behind it
unfoldable pub all_apart : List String → Bool
all_apart [] = true
all_apart (name ∷ names) = apart_from_all (bytes name) names && all_apart names

pub record NamesApart : Type 0 where
  -- there is a name for each capability, 0 to 40
  pub count : length capability_names ≡ 41
  -- all differ, and none begins another
  pub names : all_apart capability_names ≡ true
  -- nor does one begin `all`, or `all` begin one
  pub all : apart_from_all (bytes "all") capability_names ≡ true
