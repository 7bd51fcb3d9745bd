-- The securebits by the names of linux/securebits.h ("What a thread carries", "Securebits"). Assumes nothing.
use Rattle.std.specs.Prelude.{ℕ, ◌*◌, List, [], ◌∷◌}

abbrev pub SECBIT_NOROOT : ℕ
SECBIT_NOROOT = 1

abbrev pub SECBIT_NO_SETUID_FIXUP : ℕ
SECBIT_NO_SETUID_FIXUP = 4

abbrev pub SECBIT_KEEP_CAPS : ℕ
SECBIT_KEEP_CAPS = 16

abbrev pub SECBIT_NO_CAP_AMBIENT_RAISE : ℕ
SECBIT_NO_CAP_AMBIENT_RAISE = 64

-- the lock of a flag is twice its value
abbrev pub lock_of : ℕ → ℕ
lock_of flag = 2 * flag

-- all of them in the header's order, each flag followed by its lock
unfoldable pub header : List ℕ
header =
    SECBIT_NOROOT ∷
    lock_of SECBIT_NOROOT ∷
    SECBIT_NO_SETUID_FIXUP ∷
    lock_of SECBIT_NO_SETUID_FIXUP ∷
    SECBIT_KEEP_CAPS ∷
    lock_of SECBIT_KEEP_CAPS ∷
    SECBIT_NO_CAP_AMBIENT_RAISE ∷
    lock_of SECBIT_NO_CAP_AMBIENT_RAISE ∷
    []
