-- What a record heap keeps (this project's own).
use Rattle.std.specs.Prelude.{ℕ, ◌≡◌, ◌≢◌, ◌+◌, ◌<◌, ◌≤◌, ◌^◌, ◌==◌, true, Some, is_some, length, count_by}
use Rattle.kmem_model.specs.Heap.{Object, HeapState, object_at, kept_count, leftover_count, IsTied}

-- no back reference stands twice, and an object that a name or a tag leads to has a value
pub record IsObjectKept (o : Object) : Type 0 where
  pub once : (name : ℕ) → count_by (λ other. other == name) o.names ≤ 1
  pub valued : length o.names + o.holds ≢ 0 → is_some o.value ≡ true

-- names, tags and objects fit together, and the counts are right
pub record IsHeapKept (h : HeapState) (present records leftovers : ℕ) : Type 0 where
  pub tied : IsTied h
  pub whole : (b : ℕ) (o : Object) → object_at h b ≡ Some o → IsObjectKept o
  pub names : length h.names < 2 ^ 32
  pub tags : length h.tags ≤ 128
  pub objects : length h.objects ≤ 65536
  pub names_counted : present ≡ count_by is_some h.names
  pub records_counted : records ≡ kept_count h
  pub leftovers_counted : leftovers ≡ leftover_count h
