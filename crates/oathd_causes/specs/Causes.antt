-- The causes of errors and of wrong texts.
use Rattle.std.specs.Prelude.{ℕ, ◌==◌, not, Bool, if◌then◌else◌, List, Option, Some, None}
use Rattle.std.specs.Char.{is_ascii_alphabetic}
use Rattle.std.specs.List.{list_any}
use Rattle.std.specs.declared.io.ErrorKind.{ErrorKind}
use Rattle.std.specs.declared.io.ErrorKind.TheVariants.{NotFound, NotADirectory, IsADirectory, PermissionDenied, ReadOnlyFilesystem, StorageFull, QuotaExceeded, FileTooLarge, AddrInUse, AddrNotAvailable}
use Rattle.secret_text.specs.declared.fault.SecretFault.{SecretFault}
use Rattle.secret_text.specs.declared.fault.SecretFault.TheVariants.{BadCharacter, BadLength, TooLong, Empty}
use Rattle.oathd_causes.specs.declared.address.AddressCause.{AddressCause}
use Rattle.oathd_causes.specs.declared.address.AddressCause.TheVariants.{HostName, Ipv6, NoPort, Other}
use Rattle.oathd_causes.specs.declared.file.FileCause.{FileCause}
use Rattle.oathd_causes.specs.declared.file.FileCause.TheVariants.{Missing, Folder, Denied, ReadOnly, Full, TooLarge}
use Rattle.oathd_causes.specs.declared.key.KeyCause.{KeyCause}
use Rattle.oathd_causes.specs.declared.key.KeyCause.TheVariants.{Character, Length}
use Rattle.oathd_causes.specs.declared.socket.SocketCause.{SocketCause}
use Rattle.oathd_causes.specs.declared.socket.SocketCause.TheVariants as sockets

-- the cause of a kind of error of a file; if a folder in its path is not a folder, the file is missing
abbrev pub file_cause_of : ErrorKind → Option FileCause
file_cause_of NotFound = Some Missing
file_cause_of NotADirectory = Some Missing
file_cause_of IsADirectory = Some Folder
file_cause_of PermissionDenied = Some Denied
file_cause_of ReadOnlyFilesystem = Some ReadOnly
file_cause_of StorageFull = Some Full
file_cause_of QuotaExceeded = Some Full
file_cause_of FileTooLarge = Some TooLarge
file_cause_of kind = None

-- the cause of a kind of error of an address
abbrev pub socket_cause_of : ErrorKind → Option SocketCause
socket_cause_of AddrInUse = Some sockets.InUse
socket_cause_of AddrNotAvailable = Some sockets.Elsewhere
socket_cause_of PermissionDenied = Some sockets.Denied
socket_cause_of kind = None

-- the reason why a text is not a key: its first byte that is not a digit, by its place from 0, or its length
abbrev pub key_cause : SecretFault → KeyCause
key_cause (BadCharacter place) = Character place
key_cause BadLength = Length
key_cause TooLong = Length
key_cause Empty = Length

-- whether a text has a byte
abbrev pub has_byte : List ℕ → ℕ → Bool
has_byte text byte = list_any (λ other. other == byte) text

-- whether a byte is a letter of ASCII
abbrev pub is_letter : ℕ → Bool
is_letter byte = is_ascii_alphabetic byte

-- the reason why a text is not an IPv4 address with a port: the bracket of an IPv6 address, a letter, or no port
abbrev pub address_cause : List ℕ → AddressCause
address_cause text =
    if has_byte text 91 then Ipv6
    else if list_any is_letter text then HostName
    else if not (has_byte text 58) then NoPort
    else Other
