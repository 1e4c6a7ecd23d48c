-- The lemmas that other crates cite.
pub use Rattle.host_frame.proofs.Acting.{charged_good, charged_spent, shown_too_large, then_exit}
pub use Rattle.host_frame.proofs.Decoding.{entered_hosted, spelled_bounded, spelled_shallow}
pub use Rattle.host_frame.proofs.Fitting.{few_spelled, hosted_fits, shallow_fits, spelled_bytes}
pub use Rattle.host_frame.proofs.KeyLaws.{between, first_of, greater_than, key_made, less_of, second_of, val_made, value_gap}
pub use Rattle.host_frame.proofs.KeyLaws.{value_there}
pub use Rattle.host_frame.proofs.Making.{bytes_made, datums_length, few_bytes, few_entries, few_items, few_string, few_symbol}
pub use Rattle.host_frame.proofs.Making.{few_values, item_made, items_made, map_keys_made, map_made, map_rises, map_values_made}
pub use Rattle.host_frame.proofs.Making.{pairs_length, put_made, rises, scalar_made, values_are_made, without_made}
