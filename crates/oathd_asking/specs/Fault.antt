-- The faults that end a command to running nodes.
use Rattle.std.specs.Prelude.{◌≡◌, ◌⊎◌, ℕ, List, Option, None, Some}
use Rattle.std.specs.declared.net.socket_addr.SocketAddrV4.{SocketAddrV4}
use Rattle.operator_text.specs.Reply.{reply_at}
use Rattle.operator_text.specs.declared.reply.Reply.{Reply}
use Rattle.operator_text.specs.declared.reply.Reply.TheVariants as replies
use Rattle.oathd_asking.specs.declared.fault.AskFault.{AskFault}
use Rattle.oathd_asking.specs.declared.fault.AskFault.TheVariants.{Memory, CannotWrite, NoClock, OperatorFile, NoUser, NoRight, NoRequest, NoReport, Busy, Degraded, NoMajority, Socket, NoAnswer}

-- the exit status
abbrev pub status_of : AskFault → ℕ
status_of Memory = 1
status_of CannotWrite = 1
status_of NoClock = 1
status_of (OperatorFile fault) = 1
status_of (NoUser user) = 1
status_of (NoRight address) = 1
status_of (NoRequest address) = 1
status_of (NoReport address) = 1
status_of (Busy address) = 1
status_of Degraded = 1
status_of NoMajority = 2
status_of Socket = 4
status_of (NoAnswer address) = 4

-- the fault of a reply that refuses a request
abbrev pub refusal_by : SocketAddrV4 → Option Reply → AskFault
refusal_by address (Some replies.NoRight) = NoRight address
refusal_by address (Some replies.NoReport) = NoReport address
refusal_by address (Some replies.Busy) = Busy address
refusal_by address reply = NoRequest address

-- the fault of a text that is no page
abbrev pub refusal_of : SocketAddrV4 → List ℕ → AskFault
refusal_of address text = refusal_by address (reply_at text)

-- the clock or the socket failed
abbrev pub IsOfSocket : AskFault → Type 0
IsOfSocket fault = (fault ≡ NoClock) ⊎ (fault ≡ Socket)

-- the memory, the clock or the socket failed, or no report came from the node
abbrev pub IsOfExchange : SocketAddrV4 → AskFault → Type 0
IsOfExchange address Memory = Unit {0}
IsOfExchange address NoClock = Unit {0}
IsOfExchange address Socket = Unit {0}
IsOfExchange address (NoAnswer other) = other ≡ address
IsOfExchange address fault = ⊥

-- a page is missing: none came, or the node refused it, or the allocator refused the memory
abbrev pub IsOfReport : SocketAddrV4 → AskFault → Type 0
IsOfReport address Memory = Unit {0}
IsOfReport address NoClock = Unit {0}
IsOfReport address Socket = Unit {0}
IsOfReport address (NoAnswer other) = other ≡ address
IsOfReport address (NoRight other) = other ≡ address
IsOfReport address (NoRequest other) = other ≡ address
IsOfReport address (NoReport other) = other ≡ address
IsOfReport address (Busy other) = other ≡ address
IsOfReport address fault = ⊥

-- the same, or the output failed
abbrev pub IsOfPrinting : SocketAddrV4 → AskFault → Type 0
IsOfPrinting address fault = IsOfReport address fault ⊎ (fault ≡ CannotWrite)
