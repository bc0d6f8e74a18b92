-- Each is the promise of devices, of the history that is genuine.
use Rattle.name_law.proofs.laws.unforged_devices_are_safe.Goals as goal

pub returns-clause-single_use : goal.returns-clause-single_use
returns-clause-single_use c = λ names seed setting history sized h. c.devices_are_safe.ensures.single_use seed setting history (c.unforged_names_are_genuine.ensures names setting history sized h)

pub returns-clause-in_order : goal.returns-clause-in_order
returns-clause-in_order c = λ names seed setting history sized h. c.devices_are_safe.ensures.in_order seed setting history (c.unforged_names_are_genuine.ensures names setting history sized h)

pub returns-clause-majority : goal.returns-clause-majority
returns-clause-majority c = λ names seed setting history sized h. c.devices_are_safe.ensures.majority seed setting history (c.unforged_names_are_genuine.ensures names setting history sized h)
