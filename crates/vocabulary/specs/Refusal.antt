-- The numbers under which calls are turned down. Every fault of the library has one of them.
use Rattle.std.specs.Prelude.{ℕ}
use Rattle.vocabulary.specs.declared.fault.HostFault.{HostFault}
use Rattle.vocabulary.specs.declared.fault.HostFault.TheVariants.{NotLive, TextTooLong}
use Rattle.vocabulary.specs.declared.fault.LayerFault.{LayerFault}
use Rattle.vocabulary.specs.declared.fault.LayerFault.TheVariants.{Host, NotNamed, Full}
use Rattle.vocabulary.specs.declared.fault.PrintFault.{PrintFault}
use Rattle.vocabulary.specs.declared.fault.PrintFault.TheVariants.{Host as Raised, Store, BufferTooShort}
use Rattle.vocabulary.specs.declared.fault.StoreFault.{StoreFault}
use Rattle.vocabulary.specs.declared.fault.StoreFault.TheVariants.{NotHeld, Host as Handed, NoFrames, ListTooShort, NotFlattening}

-- an error is not live in the host
abbrev pub not_live : ℕ
not_live = 1

-- a text is longer than the part that it may fill
abbrev pub too_long : ℕ
too_long = 6

-- a rank above 10, or an io kind above 15
abbrev pub not_named : ℕ
not_named = 7

-- a layer has all its entries, or its numbers are used up
abbrev pub layer_full : ℕ
layer_full = 8

abbrev pub host_fault_number : HostFault → ℕ
host_fault_number (NotLive e) = not_live
host_fault_number (TextTooLong n) = too_long

abbrev pub layer_fault_number : LayerFault → ℕ
layer_fault_number (Host f) = host_fault_number f
layer_fault_number (NotNamed n) = not_named
layer_fault_number (Full n) = layer_full

-- fewer frames are free than a call needs
abbrev pub no_frames : ℕ
no_frames = 2

-- a report or basket is another store's, its root is not live, or two have the same root
abbrev pub not_held : ℕ
not_held = 3

-- a list is shorter than the number of nodes
abbrev pub list_too_short : ℕ
list_too_short = 4

-- a list is no flattening
abbrev pub not_flattening : ℕ
not_flattening = 5

abbrev pub store_fault_number : StoreFault → ℕ
store_fault_number NotHeld = not_held
store_fault_number (Handed f) = host_fault_number f
store_fault_number (NoFrames n) = no_frames
store_fault_number (ListTooShort n) = list_too_short
store_fault_number (NotFlattening i) = not_flattening

-- a print is longer than its buffer: the same number as of a text that is longer than its part
abbrev pub print_fault_number : PrintFault → ℕ
print_fault_number (Raised f) = host_fault_number f
print_fault_number (Store f) = store_fault_number f
print_fault_number (BufferTooShort n) = too_long

-- a refusal of the store or of a chain as that of a print: a host's refusal stays a host's
abbrev pub print_fault_of : StoreFault → PrintFault
print_fault_of NotHeld = Store NotHeld
print_fault_of (Handed f) = Raised f
print_fault_of (NoFrames n) = Store (NoFrames n)
print_fault_of (ListTooShort n) = Store (ListTooShort n)
print_fault_of (NotFlattening i) = Store (NotFlattening i)
