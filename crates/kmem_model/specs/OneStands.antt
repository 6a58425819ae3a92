-- When a heap of objects in a cache's buffers stands for what `one` keeps (this project's own).
use Rattle.std.specs.Prelude.{ℕ, ◌≡◌, Bool, true, false, is_some, length}
use Rattle.kmem_text.specs.declared.command.Command.{Command}
use Rattle.kmem_text.specs.declared.command.Command.TheVariants.{Put, Del, Read, Write, Drop}
use Rattle.kmem_text.specs.declared.command.Tag.{Tag}
use Rattle.kmem_text.specs.declared.command.Reply.{Reply}
use Rattle.kmem_model.specs.CacheState.{CacheState, is_out, has_pending}
use Rattle.kmem_model.specs.Heap.{HeapState, StandsFor, object_at}
use Rattle.kmem_model.specs.SettleWhole.{IsWhole}
use Rattle.kmem_model.specs.One.{OneState, OneStep, buffers_of}

-- the heap stands for the map at these addresses, and its objects lie in exactly the buffers that are out
pub record OneStands (s : OneState) (h : HeapState) : Type 0 where
  pub whole : IsWhole s.cache
  pub calm : has_pending s.cache ≡ false
  pub stands : StandsFor s.map s.addresses h
  pub size : length h.objects ≡ buffers_of s.cache
  pub places : (b : ℕ) → is_some (object_at h b) ≡ is_out s.cache b

-- a command that leaves every object where it is
abbrev pub leaves_objects : Command → Bool
leaves_objects (Put name value) = false
leaves_objects (Del name) = false
leaves_objects _ = true

-- a command on the record that this tag holds
abbrev pub IsOnTag : Command → Tag → Type 0
IsOnTag (Read tag) on = tag ≡ on
IsOnTag (Write tag value) on = tag ≡ on
IsOnTag (Drop tag) on = tag ≡ on
IsOnTag _ on = ⊥

-- the reply of a step of `one`, the cache that it leaves, and that the heap stands for what it leaves
pub record OneEnds (made : OneStep) (reply : Reply) (cache : CacheState) (h : HeapState) : Type 0 where
  pub replies : made.reply ≡ reply
  pub leaves : made.state.cache ≡ cache
  pub stands : OneStands made.state h
