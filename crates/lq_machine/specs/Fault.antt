-- Why a step was not made, by why a put failed.
use Rattle.lq_shelf.specs.declared.sink.Put.{Put}
use Rattle.lq_shelf.specs.declared.sink.Put.TheVariants.{Failed as PutFailed, NoMemory as PutNoMemory}
use Rattle.lq_machine.specs.declared.machine.StepFault.{StepFault}
use Rattle.lq_machine.specs.declared.machine.StepFault.TheVariants.{SinkFault, NoMemory}

abbrev pub fault_of : Put → StepFault
fault_of PutFailed = SinkFault
fault_of PutNoMemory = NoMemory
