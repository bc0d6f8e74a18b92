-- A run's faults for the faults of a time.
use Rattle.oathtool_core.specs.declared.fault.Fault.{Fault}
use Rattle.oathtool_core.specs.declared.fault.Fault.TheVariants.{BadTime as BadTimeOption, Memory as NoMemory}
use Rattle.oathtool_core.specs.declared.time.TimeFault.{TimeFault}
use Rattle.oathtool_core.specs.declared.time.TimeFault.TheVariants.{BadTime, Memory}

-- the run's fault for a fault of a time
abbrev pub fault_of : TimeFault → Fault
fault_of BadTime = BadTimeOption
fault_of Memory = NoMemory
