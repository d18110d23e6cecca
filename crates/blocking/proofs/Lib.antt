-- Laws of the searches of points. Extremes: folds that keep the least or the greatest, and turns of a walk that stops;
-- Rising: why a walk of rising locks may stop; Free: the first free point; Near and Judged: the first blocked point
-- with its judgement; Answered: what an answer says of the number that it comes from; Runs: the run of
-- points that is had. They rest on the laws of `meaning` and `tables`.
pub mod Extremes
pub mod Rising
pub mod Free
pub mod Near
pub mod Judged
pub mod Answered
pub mod Runs
