-- The answers of a client as the entry rules name them (both are those of the theory statement of kmem.c).
use Rattle.kmem_buf.specs.declared.client.Verdict.{Verdict}
use Rattle.kmem_buf.specs.declared.client.Verdict.TheVariants as verdict
use Rattle.kmem_model.specs.declared.cache_entry.Said.{Said}
use Rattle.kmem_model.specs.declared.cache_entry.Said.TheVariants as said

-- the entry rules' word for an answer
abbrev pub said_of : Verdict → Said
said_of verdict.Yes = said.Yes
said_of verdict.No = said.No
said_of verdict.Later = said.Later
said_of verdict.DontNeed = said.DontNeed
said_of verdict.DontKnow = said.DontKnow
