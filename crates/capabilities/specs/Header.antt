-- The capabilities' numbers by the names of linux/capability.h ("What a thread carries"). Assumes nothing.
use Rattle.std.specs.Prelude.{ℕ, List, [], ◌∷◌}

abbrev pub CAP_CHOWN : ℕ
CAP_CHOWN = 0

abbrev pub CAP_DAC_OVERRIDE : ℕ
CAP_DAC_OVERRIDE = 1

abbrev pub CAP_DAC_READ_SEARCH : ℕ
CAP_DAC_READ_SEARCH = 2

abbrev pub CAP_FOWNER : ℕ
CAP_FOWNER = 3

abbrev pub CAP_FSETID : ℕ
CAP_FSETID = 4

abbrev pub CAP_KILL : ℕ
CAP_KILL = 5

abbrev pub CAP_SETGID : ℕ
CAP_SETGID = 6

abbrev pub CAP_SETUID : ℕ
CAP_SETUID = 7

abbrev pub CAP_SETPCAP : ℕ
CAP_SETPCAP = 8

abbrev pub CAP_LINUX_IMMUTABLE : ℕ
CAP_LINUX_IMMUTABLE = 9

abbrev pub CAP_NET_BIND_SERVICE : ℕ
CAP_NET_BIND_SERVICE = 10

abbrev pub CAP_NET_BROADCAST : ℕ
CAP_NET_BROADCAST = 11

abbrev pub CAP_NET_ADMIN : ℕ
CAP_NET_ADMIN = 12

abbrev pub CAP_NET_RAW : ℕ
CAP_NET_RAW = 13

abbrev pub CAP_IPC_LOCK : ℕ
CAP_IPC_LOCK = 14

abbrev pub CAP_IPC_OWNER : ℕ
CAP_IPC_OWNER = 15

abbrev pub CAP_SYS_MODULE : ℕ
CAP_SYS_MODULE = 16

abbrev pub CAP_SYS_RAWIO : ℕ
CAP_SYS_RAWIO = 17

abbrev pub CAP_SYS_CHROOT : ℕ
CAP_SYS_CHROOT = 18

abbrev pub CAP_SYS_PTRACE : ℕ
CAP_SYS_PTRACE = 19

abbrev pub CAP_SYS_PACCT : ℕ
CAP_SYS_PACCT = 20

abbrev pub CAP_SYS_ADMIN : ℕ
CAP_SYS_ADMIN = 21

abbrev pub CAP_SYS_BOOT : ℕ
CAP_SYS_BOOT = 22

abbrev pub CAP_SYS_NICE : ℕ
CAP_SYS_NICE = 23

abbrev pub CAP_SYS_RESOURCE : ℕ
CAP_SYS_RESOURCE = 24

abbrev pub CAP_SYS_TIME : ℕ
CAP_SYS_TIME = 25

abbrev pub CAP_SYS_TTY_CONFIG : ℕ
CAP_SYS_TTY_CONFIG = 26

abbrev pub CAP_MKNOD : ℕ
CAP_MKNOD = 27

abbrev pub CAP_LEASE : ℕ
CAP_LEASE = 28

abbrev pub CAP_AUDIT_WRITE : ℕ
CAP_AUDIT_WRITE = 29

abbrev pub CAP_AUDIT_CONTROL : ℕ
CAP_AUDIT_CONTROL = 30

abbrev pub CAP_SETFCAP : ℕ
CAP_SETFCAP = 31

abbrev pub CAP_MAC_OVERRIDE : ℕ
CAP_MAC_OVERRIDE = 32

abbrev pub CAP_MAC_ADMIN : ℕ
CAP_MAC_ADMIN = 33

abbrev pub CAP_SYSLOG : ℕ
CAP_SYSLOG = 34

abbrev pub CAP_WAKE_ALARM : ℕ
CAP_WAKE_ALARM = 35

abbrev pub CAP_BLOCK_SUSPEND : ℕ
CAP_BLOCK_SUSPEND = 36

abbrev pub CAP_AUDIT_READ : ℕ
CAP_AUDIT_READ = 37

abbrev pub CAP_PERFMON : ℕ
CAP_PERFMON = 38

abbrev pub CAP_BPF : ℕ
CAP_BPF = 39

abbrev pub CAP_CHECKPOINT_RESTORE : ℕ
CAP_CHECKPOINT_RESTORE = 40

-- all of them, in the header's order
unfoldable pub header : List ℕ
header =
    CAP_CHOWN ∷
    CAP_DAC_OVERRIDE ∷
    CAP_DAC_READ_SEARCH ∷
    CAP_FOWNER ∷
    CAP_FSETID ∷
    CAP_KILL ∷
    CAP_SETGID ∷
    CAP_SETUID ∷
    CAP_SETPCAP ∷
    CAP_LINUX_IMMUTABLE ∷
    CAP_NET_BIND_SERVICE ∷
    CAP_NET_BROADCAST ∷
    CAP_NET_ADMIN ∷
    CAP_NET_RAW ∷
    CAP_IPC_LOCK ∷
    CAP_IPC_OWNER ∷
    CAP_SYS_MODULE ∷
    CAP_SYS_RAWIO ∷
    CAP_SYS_CHROOT ∷
    CAP_SYS_PTRACE ∷
    CAP_SYS_PACCT ∷
    CAP_SYS_ADMIN ∷
    CAP_SYS_BOOT ∷
    CAP_SYS_NICE ∷
    CAP_SYS_RESOURCE ∷
    CAP_SYS_TIME ∷
    CAP_SYS_TTY_CONFIG ∷
    CAP_MKNOD ∷
    CAP_LEASE ∷
    CAP_AUDIT_WRITE ∷
    CAP_AUDIT_CONTROL ∷
    CAP_SETFCAP ∷
    CAP_MAC_OVERRIDE ∷
    CAP_MAC_ADMIN ∷
    CAP_SYSLOG ∷
    CAP_WAKE_ALARM ∷
    CAP_BLOCK_SUSPEND ∷
    CAP_AUDIT_READ ∷
    CAP_PERFMON ∷
    CAP_BPF ∷
    CAP_CHECKPOINT_RESTORE ∷
    []
