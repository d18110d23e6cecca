-- The law of the chart reader. Rests on specs/ and on the charts of `history`.
pub mod Laws
